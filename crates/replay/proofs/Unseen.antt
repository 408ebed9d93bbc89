-- What a tidying forgets makes no difference at its second or later.
use Rattle.std.proofs.Common.{◌≡◌, ℕ, ℤ, pos, ◌-ℤ◌, ◌≤ℤ◌, Bool, true, false, cond, not, ◌||◌, nat_le, nat_lt, Option, None, Equal, refl, sym, ap, ◌∙◌, arith}
use Rattle.std.specs.Prelude.{int_lt, unsigned_abs, if◌then◌else◌}
use Rattle.std.specs.Int.{int_max}
use Rattle.std.specs.FinMap.{FinMap, entries, same_map, get-retain_keys}
use Rattle.std.specs.FinMap as map
use Rattle.std.proofs.lemmas.Int.{ints, clamps}
use Rattle.std.proofs.lemmas.Bool.Decides.{nat_tests}
use Rattle.krb_fields.specs.Skew.{skew}
use Rattle.replay.specs.ReplayCache.{floor_at, if_kept, recent, recorded, verdict}
use Rattle.replay.specs.Stamp.{Stamp, stamp_cmp, is_from, is_beyond_clock_skew}
use Rattle.replay.specs.Tidied.{floor_on, raised, tidied}
use Rattle.replay.specs.Unseen.{TidiedUnseen}
use Rattle.replay.specs.declared.cache.ReplayCache.{ReplayCache}
use Rattle.replay.specs.declared.verdict.Verdict.{Verdict}
use Rattle.replay.specs.declared.verdict.Verdict.TheVariants.{Fresh, Skew, Full}
use Rattle.replay.proofs.Stamps.{stamp_total, stamp_exact}
use Rattle.replay.proofs.Raising.{floor_rises, floor_within, floor_twice}

nested : {V : Type 0} (a b : Bool) (o : Option V) → (a ≡ true → b ≡ true) → cond a (cond b o None) None ≡ cond a o None
nested true true o h = refl
nested true false o h = let e = h refl in cc
nested false b o h = refl

higher : (low high ctime : ℤ) → low ≤ℤ high → not (int_lt ctime high) ≡ true → not (int_lt ctime low) ≡ true
higher low high ctime le h = grind (arith, ints)

alike : (second : ℤ) (q x : Stamp) → stamp_cmp q x ≡ Equal → is_from second x ≡ is_from second q
alike second q x t = ap (is_from second) (sym (stamp_exact q x t))

retain_twice : {V : Type 0} (m : FinMap stamp_cmp V) (low high : ℤ) → low ≤ℤ high → map.retain_keys (map.retain_keys m (is_from low)) (is_from high) ≡ map.retain_keys m (is_from high)
retain_twice m low high le = same_map stamp_total stamp_exact _ _ (λ q.
    get-retain_keys (map.retain_keys m (is_from low)) (is_from high) q (alike high q)
    ∙ ap (λ o. cond (is_from high q) o None) (get-retain_keys m (is_from low) q (alike low q))
    ∙ nested (is_from high q) (is_from low q) (map.get m q) (higher low high q.0 le)
    ∙ sym (get-retain_keys m (is_from high) q (alike high q)))

max_twice : (floor above low high : ℤ) → low ≤ℤ high → floor ≤ℤ above → above ≤ℤ int_max floor (low -ℤ pos skew) → int_max above (high -ℤ pos skew) ≡ int_max floor (high -ℤ pos skew)
max_twice floor above low high le rises within = grind (arith, ints, clamps)

max_rises : (floor low high : ℤ) → low ≤ℤ high → int_max floor (low -ℤ pos skew) ≤ℤ int_max floor (high -ℤ pos skew)
max_rises floor low high le = grind (arith, ints, clamps)

not_far : (far low : Bool) → (far || low) ≡ false → far ≡ false
not_far true low e = cc
not_far false low e = refl

not_low : (far low : Bool) → (far || low) ≡ false → low ≡ false
not_low true low e = cc
not_low false low e = e

not_early : (now ctime : ℤ) → nat_lt skew (unsigned_abs (ctime -ℤ now)) ≡ false → (now -ℤ pos skew) ≤ℤ ctime
not_early now ctime h = grind (arith, ints, nat_tests)

still_low : (floor above ctime : ℤ) → floor ≤ℤ above → int_lt ctime floor ≡ true → int_lt ctime above ≡ true
still_low floor above ctime le h = grind (arith, ints)

still_high : (floor second ctime : ℤ) → second ≤ℤ ctime → int_lt ctime floor ≡ false → int_lt ctime (int_max floor second) ≡ false
still_high floor second ctime le h = grind (arith, ints, clamps)

high_too : (above high ctime : ℤ) → above ≤ℤ high → int_lt ctime high ≡ false → int_lt ctime above ≡ false
high_too above high ctime le h = grind (arith, ints)

le_then : (a b c : ℤ) → a ≤ℤ b → (b -ℤ pos skew) ≤ℤ c → (a -ℤ pos skew) ≤ℤ c
le_then a b c p q = omega (arith, ints)

module _ {V : Type 0} (m : ReplayCache V) (at now : ℤ) (le : at ≤ℤ now) where
  same_floor : floor_at (tidied m at).floor now ≡ floor_at m.floor now
  same_floor = max_twice m.floor (tidied m at).floor at now le (floor_rises m at) (floor_within m at)

  same_left : map.retain_keys (tidied m at).pairs (is_from (floor_at (tidied m at).floor now)) ≡ map.retain_keys m.pairs (is_from (floor_at m.floor now))
  same_left =
      ap (λ f. map.retain_keys (tidied m at).pairs (is_from f)) same_floor
      ∙ retain_twice m.pairs (floor_at m.floor at) (floor_at m.floor now) (max_rises m.floor at now le)

  -- an earlier tidying makes no difference
  pub tidied_twice : tidied (tidied m at) now ≡ tidied m now
  tidied_twice =
      let floors : (tidied (tidied m at) now).floor ≡ (tidied m now).floor =
      ap (λ f. floor_on (raised f (tidied m at).floor (entries (tidied m at).pairs)) now) same_floor ∙ floor_twice m at now (floor_at m.floor now) le (max_rises m.floor at now le) in
      λ i. record m { floor = floors i; pairs = same_left i }

  pub recorded_tidied : (stamp : Stamp) (kept : V) → recorded (tidied m at) now stamp kept ≡ recorded m now stamp kept
  recorded_tidied stamp kept = λ i. record m { floor = same_floor i; pairs = map.insert (same_left i) stamp kept }

  module _ (stamp : Stamp) where
    still_timely : nat_lt skew (unsigned_abs (stamp.0 -ℤ now)) ≡ false → int_lt stamp.0 m.floor ≡ false → int_lt stamp.0 (floor_at m.floor at) ≡ false
    still_timely near e = still_high m.floor (at -ℤ pos skew) stamp.0 (le_then at now stamp.0 le (not_early now stamp.0 near)) e

    same_low : nat_lt skew (unsigned_abs (stamp.0 -ℤ now)) ≡ false → (b : Bool) → int_lt stamp.0 m.floor ≡ b → int_lt stamp.0 (tidied m at).floor ≡ b
    same_low near true e = still_low m.floor (tidied m at).floor stamp.0 (floor_rises m at) e
    same_low near false e = high_too (tidied m at).floor (floor_at m.floor at) stamp.0 (floor_within m at) (still_timely near e)

    same_skew : (b : Bool) → nat_lt skew (unsigned_abs (stamp.0 -ℤ now)) ≡ b → (b || int_lt stamp.0 (tidied m at).floor) ≡ (b || int_lt stamp.0 m.floor)
    same_skew true e = refl
    same_skew false e = same_low e (int_lt stamp.0 m.floor) refl

    same_pair : is_beyond_clock_skew m.floor now stamp.0 ≡ false → map.get (tidied m at).pairs stamp ≡ map.get m.pairs stamp
    same_pair timely =
        let far = nat_lt skew (unsigned_abs (stamp.0 -ℤ now)) in
        let near : far ≡ false = not_far far (int_lt stamp.0 m.floor) timely in
        let high : int_lt stamp.0 (floor_at m.floor at) ≡ false = still_timely near (not_low far (int_lt stamp.0 m.floor) timely) in
        get-retain_keys m.pairs (is_from (floor_at m.floor at)) stamp (alike (floor_at m.floor at) stamp) ∙ ap (λ b. cond (not b) (map.get m.pairs stamp) None) high

    -- the verdict within the clock skew
    abbrev compared : ReplayCache V → ℕ → Verdict V
    compared n limit = if_kept (map.get n.pairs stamp) (if nat_le limit (recent n now) then Full else Fresh)

    pub tidied_says : (limit : ℕ) → verdict (tidied m at) now stamp limit ≡ verdict m now stamp limit
    tidied_says limit = ap (λ b. cond b Skew (compared (tidied m at) limit)) same ∙ by_test (is_beyond_clock_skew m.floor now stamp.0) refl
      where
        same : is_beyond_clock_skew (tidied m at).floor now stamp.0 ≡ is_beyond_clock_skew m.floor now stamp.0
        same = same_skew (nat_lt skew (unsigned_abs (stamp.0 -ℤ now))) refl

        by_test : (b : Bool) → is_beyond_clock_skew m.floor now stamp.0 ≡ b → cond b Skew (compared (tidied m at) limit) ≡ cond b Skew (compared m limit)
        by_test true e = refl
        by_test false e = λ i. if_kept (same_pair e i) (if nat_le limit (map.len (same_left i)) then Full else Fresh)

pub tidied_unseen : {V : Type 0} → TidiedUnseen V
tidied_unseen m at now stamp limit le = tidied_says m at now le stamp limit
