-- Dropping old entries preserves a property that holds of a cache, and of an empty one in place of one that is dropped.
use Rattle.std.proofs.Common.{◌≡◌, ℕ, ℤ, pos, ◌-ℤ◌, ◌≤ℤ◌, Bool, true, false, cond, not, ◌&&◌, ◌||◌, nat_le, Option, Some, None, Equal, refl, sym, ap, subst, ◌∙◌, arith, inl, inr}
use Rattle.std.specs.Prelude.{⊤, int_lt}
use Rattle.std.specs.Int.{int_max}
use Rattle.std.specs.Option.{unwrap_or}
use Rattle.std.specs.FinMap.{same_map, get-empty, get-retain_keys, empty_of_len}
use Rattle.std.specs.FinMap as map
use Rattle.std.proofs.lemmas.Int.{ints, clamps}
use Rattle.std.proofs.lemmas.Bool.Decides.{nat_tests}
use Rattle.krb_fields.specs.Name.{Components, name_total}
use Rattle.rule_lists.proofs.Values.{get-retain_values, passing}
use Rattle.replay.specs.Stamp.{Stamp, stamp_cmp, is_from}
use Rattle.replay.specs.declared.cache.ReplayCache.{ReplayCache}
use Rattle.replay.proofs.Settled.{IsSettled}
use Rattle.replay.proofs.Stamps.{stamp_total, stamp_exact}
use Rattle.ap_accept.specs.Clients.{empty_cache, floor_for, hour, lasts, drop_expired, cache_in, raised_to}
use Rattle.ap_accept.specs.declared.clients.Clients.{Clients}
use Rattle.ap_accept.proofs.Raised.{further, further_twice, raised}

pub both : (a b : Bool) → (a && b) ≡ true → (a ≡ true) × (b ≡ true)
both true b e = (refl, e)
both false b e = absurd cc

neither : {V : Type 0} (b : Bool) → ◌≡◌ {A = Option V} (cond b None None) None
neither true = refl
neither false = refl

retain_none : (p : Stamp → Bool) → ((q x : Stamp) → stamp_cmp q x ≡ Equal → p x ≡ p q) → map.retain_keys (map.empty {X = ⊤} {R = stamp_cmp}) p ≡ map.empty
retain_none p alike = same_map stamp_total stamp_exact _ _ (λ q. get-retain_keys map.empty p q (alike q) ∙ ap (λ o. cond (p q) o None) (get-empty stamp_cmp q) ∙ neither (p q) ∙ sym (get-empty stamp_cmp q))

-- filtering no pairs leaves none
pub none_from : (second : ℤ) → map.retain_keys (map.empty {X = ⊤} {R = stamp_cmp}) (is_from second) ≡ map.empty
none_from second = retain_none (is_from second) (λ q x t. ap (is_from second) (sym (stamp_exact q x t)))

no_more : (n : ℕ) → nat_le 1 n ≡ false → n ≡ 0
no_more n h = grind (arith, nat_tests)

neither_holds : (a b : Bool) → (a || b) ≡ false → (a ≡ false) × (b ≡ false)
neither_holds true b e = cc
neither_holds false b e = (refl, e)

floor_of : (floor f : ℤ) → int_lt floor f ≡ false → int_max f floor ≡ floor
floor_of floor f h = grind (arith, ints, clamps)

max_same : (floor : ℤ) → floor ≡ int_max floor floor
max_same floor = grind (arith, ints, clamps)

below_floor : (floor f ctime : ℤ) → int_lt floor f ≡ false → int_lt ctime f ≡ true → int_lt ctime floor ≡ true
below_floor floor f ctime h low = grind (arith, ints)

not_left : (b : Bool) (o : Option ⊤) → cond (not b) o None ≡ None → o ≡ Some tt → b ≡ true
not_left true o e held = refl
not_left false None e held = cc
not_left false (Some x) e held = cc

-- ---- a cache that an empty one can replace

module _ (floor : ℤ) (m : ReplayCache ⊤) (gone : lasts floor m ≡ false) where
  abbrev parts : (int_lt floor m.floor ≡ false) × (nat_le 1 (map.len (map.retain_keys m.pairs (is_from floor))) ≡ false)
  parts = neither_holds (int_lt floor m.floor) (nat_le 1 (map.len (map.retain_keys m.pairs (is_from floor)))) gone

  no_pairs : map.retain_keys m.pairs (is_from floor) ≡ map.empty
  no_pairs = empty_of_len (map.retain_keys m.pairs (is_from floor)) (no_more (map.len (map.retain_keys m.pairs (is_from floor))) parts.1)

  -- it equals an empty one from the floor on
  as_empty : raised floor m ≡ raised floor (empty_cache floor)
  as_empty =
      let top : int_max m.floor floor ≡ floor = floor_of floor m.floor parts.0 in
      let pairs : map.retain_keys m.pairs (is_from (int_max m.floor floor)) ≡ map.retain_keys map.empty (is_from (int_max floor floor)) =
      ap (λ f. map.retain_keys m.pairs (is_from f)) top ∙ no_pairs ∙ sym (none_from (int_max floor floor)) in
      λ i. ((top ∙ max_same floor) i, pairs i)

  pub as_empty_on : (second : ℤ) → floor ≤ℤ second → raised second (empty_cache floor) ≡ raised second m
  as_empty_on second le =
      further_twice floor second (floor, map.empty) le ∙ ap (further second) (sym as_empty) ∙ sym (further_twice floor second (m.floor, m.pairs) le)

  -- what is settled in it is too old for an empty one
  pub still_settled : (s : Stamp) → IsSettled m s tt → IsSettled (empty_cache floor) s tt
  still_settled s (inl low) = inl (below_floor floor m.floor s.0 parts.0 low)
  still_settled s (inr held) =
      inl (not_left (int_lt s.0 floor) (map.get m.pairs s)
      (sym (get-retain_keys m.pairs (is_from floor) s (λ x t. ap (is_from floor) (sym (stamp_exact s x t)))) ∙ ap (λ p. map.get p s) no_pairs ∙ get-empty stamp_cmp s)
      held)

-- ---- a service's clients

-- P carries over from a dropped cache to an empty one
abbrev pub Carried : ℤ → (ReplayCache ⊤ → Type 0) → Type 0
Carried floor P = (m : ReplayCache ⊤) → lasts floor m ≡ false → P m → P (empty_cache floor)

one_left : (floor old : ℤ) (P : ReplayCache ⊤ → Type 0) → Carried floor P → lasts floor (empty_cache old) ≡ false → (o : Option (ReplayCache ⊤)) → P (unwrap_or o (empty_cache old))
    → P (unwrap_or (passing (lasts floor) o) (empty_cache floor))
one_left floor old P carried gone None p = carried (empty_cache old) gone p
one_left floor old P carried gone (Some m) p = at (lasts floor m) refl
  where
    at : (b : Bool) → lasts floor m ≡ b → P (unwrap_or (cond b (Some m) None) (empty_cache floor))
    at true e = p
    at false e = carried m e p

lower : (old now : ℤ) → int_lt old (floor_for now -ℤ pos hour) ≡ true → int_lt (floor_for now) old ≡ false
lower old now h = grind (arith, ints)

or_false : (a b : Bool) → a ≡ false → b ≡ false → (a || b) ≡ false
or_false true b p q = cc
or_false false b p q = q

nothing_there : (second : ℤ) → nat_le 1 (map.len (map.retain_keys (map.empty {X = ⊤} {R = stamp_cmp}) (is_from second))) ≡ false
nothing_there second = ap (nat_le 1) (ap map.len (none_from second) ∙ map.len-empty stamp_cmp ⊤)

empty_gone : (old now : ℤ) → int_lt old (floor_for now -ℤ pos hour) ≡ true → lasts (floor_for now) (empty_cache old) ≡ false
empty_gone old now due = or_false _ _ (lower old now due) (nothing_there (floor_for now))

-- such a property of a client's cache still holds after old entries are dropped, which is done only when it is due
pub drop_expired_keeps_due : (P : ReplayCache ⊤ → Type 0) (now : ℤ) (clients : Clients) (client : Components) → (int_lt clients.floor (floor_for now -ℤ pos hour) ≡ true → Carried (floor_for now) P)
    → P (cache_in clients client) → P (cache_in (drop_expired now clients) client)
drop_expired_keeps_due P now clients client carried p = at (int_lt clients.floor (floor_for now -ℤ pos hour)) refl
  where
    at : (b : Bool) → int_lt clients.floor (floor_for now -ℤ pos hour) ≡ b → P (cache_in (cond b (raised_to (floor_for now) clients) clients) client)
    at true due =
        subst (λ o. P (unwrap_or o (empty_cache (floor_for now)))) (sym (get-retain_values name_total clients.caches (lasts (floor_for now)) client))
        (one_left (floor_for now) clients.floor P (carried due) (empty_gone clients.floor now due) (map.get clients.caches client) p)
    at false e = p

pub drop_expired_keeps : (P : ReplayCache ⊤ → Type 0) (now : ℤ) (clients : Clients) (client : Components) → Carried (floor_for now) P → P (cache_in clients client) → P (cache_in (drop_expired now clients) client)
drop_expired_keeps P now clients client carried = drop_expired_keeps_due P now clients client (λ due. carried)
