-- What is spent in a cache stays spent in one that holds it, whatever is recorded or tidied meanwhile.
use Rattle.std.proofs.Common.{◌≡◌, ℤ, pos, ◌-ℤ◌, ◌≤ℤ◌, Bool, true, false, cond, ◌||◌, if◌then◌else◌, ◌⊎◌, inl, inr, List, [], ◌∷◌, ◌++◌, Option, Some, None, is_eq, refl, sym, ap, subst, ◌∙◌, arith}
use Rattle.std.specs.Prelude.{int_lt}
use Rattle.std.specs.Int.{int_max}
use Rattle.std.specs.Cmp.{Equal-is, tied_itself}
use Rattle.std.specs.FinMap.{get-insert, get-retain_keys}
use Rattle.std.specs.FinMap as map
use Rattle.std.specs.Option.{is_some}
use Rattle.std.specs.Ordering.{eq_by_cmp}
use Rattle.std.proofs.lemmas.Int.{ints, clamps}
use Rattle.krb_fields.specs.Name.{Components, name_cmp}
use Rattle.krb_fields.specs.Skew.{skew}
use Rattle.replay.specs.ReplayCache.{floor_at, recorded}
use Rattle.replay.specs.Kept.{nothing_kept}
use Rattle.replay.specs.Resumed.{Holds, is_spent, resumed_cache, stamp_seen, with_all_seen, with_seen}
use Rattle.replay.specs.Stamp.{Stamp, stamp_cmp, is_from}
use Rattle.replay.specs.Tidied.{tidied}
use Rattle.replay.specs.declared.keep.Kept.{Kept}
use Rattle.replay.specs.declared.cache.ReplayCache.{ReplayCache}
use Rattle.replay.specs.declared.seen.Resumption.{Resumption}
use Rattle.replay.specs.declared.seen.Seen.{Seen}
use Rattle.replay.proofs.Raising.{floor_within}
use Rattle.replay.proofs.Stamps.{stamp_total, stamp_exact}

pub either_of : (a b : Bool) → (a || b) ≡ true → (a ≡ true) ⊎ (b ≡ true)
either_of true b e = inl refl
either_of false b e = inr e

pub by_first : (a b : Bool) → a ≡ true → (a || b) ≡ true
by_first true b e = refl
by_first false b e = absurd cc

pub by_second : (a b : Bool) → b ≡ true → (a || b) ≡ true
by_second true b e = refl
by_second false b e = e

below_higher : (floor higher ctime : ℤ) → floor ≤ℤ higher → int_lt ctime floor ≡ true → int_lt ctime higher ≡ true
below_higher floor higher ctime le h = grind (arith, ints)

below_second : (floor low ctime : ℤ) → int_lt ctime floor ≡ false → int_lt ctime (int_max floor low) ≡ true → int_lt ctime low ≡ true
below_second floor low ctime high h = grind (arith, ints, clamps)

below_one : (floor low ctime : ℤ) → int_lt ctime (int_max floor low) ≡ true → (int_lt ctime floor ≡ true) ⊎ (int_lt ctime low ≡ true)
below_one floor low ctime h = by_test (int_lt ctime floor) refl
  where
    by_test : (b : Bool) → int_lt ctime floor ≡ b → (int_lt ctime floor ≡ true) ⊎ (int_lt ctime low ≡ true)
    by_test true e = inl e
    by_test false e = inr (below_second floor low ctime e h)

some_of_cond : {A : Type 0} (b : Bool) (o : Option A) → is_some (cond b o None) ≡ true → is_some o ≡ true
some_of_cond true o e = e
some_of_cond false o e = absurd cc

some_either : {A : Type 0} (b : Bool) (x : A) (o : Option A) → is_some o ≡ true → is_some (cond b (Some x) o) ≡ true
some_either true x o e = refl
some_either false x o e = e

module _ {V : Type 0} where
  -- what a test leaves was there before
  retained_there : (m : ReplayCache V) (second : ℤ) (s : Stamp) → is_some (map.get (map.retain_keys m.pairs (is_from second)) s) ≡ true → is_some (map.get m.pairs s) ≡ true
  retained_there m second s e =
      some_of_cond (is_from second s) (map.get m.pairs s)
      (sym (ap is_some (get-retain_keys m.pairs (is_from second) s (λ x t. ap (is_from second) (sym (stamp_exact s x t))))) ∙ e)

  module _ (m n : ReplayCache V) (now : ℤ) (holds : Holds m n) (low : (now -ℤ pos skew) ≤ℤ n.floor) where
    -- below the floor at this second
    below_held : (s : Stamp) → int_lt s.0 (floor_at m.floor now) ≡ true → is_spent n s ≡ true
    below_held s below = by_floor (below_one m.floor (now -ℤ pos skew) s.0 below)
      where
        by_floor : (int_lt s.0 m.floor ≡ true) ⊎ (int_lt s.0 (now -ℤ pos skew) ≡ true) → is_spent n s ≡ true
        by_floor (inl old) = holds s (by_first (int_lt s.0 m.floor) (is_some (map.get m.pairs s)) old)
        by_floor (inr early) = by_first (int_lt s.0 n.floor) (is_some (map.get n.pairs s)) (below_higher (now -ℤ pos skew) n.floor s.0 low early)

    there_held : (s : Stamp) → is_some (map.get m.pairs s) ≡ true → is_spent n s ≡ true
    there_held s there = holds s (by_second (int_lt s.0 m.floor) (is_some (map.get m.pairs s)) there)

    -- one more is recorded, which is spent in the other too
    pub recorded_held : (stamp : Stamp) (k : V) → is_spent n stamp ≡ true → Holds (recorded m now stamp k) n
    recorded_held stamp k spent s is = by_part (either_of (int_lt s.0 (floor_at m.floor now)) (is_some (map.get (recorded m now stamp k).pairs s)) is)
      where
        by_stamp : (b : Bool) → eq_by_cmp stamp_cmp s stamp ≡ b → is_some (cond b (Some k) (map.get (map.retain_keys m.pairs (is_from (floor_at m.floor now))) s)) ≡ true → is_spent n s ≡ true
        by_stamp true same e = subst (λ t. is_spent n t ≡ true) (sym (stamp_exact s stamp ((Equal-is (stamp_cmp s stamp)).0 same))) spent
        by_stamp false apart e = there_held s (retained_there m (floor_at m.floor now) s e)

        by_part : (int_lt s.0 (floor_at m.floor now) ≡ true) ⊎ (is_some (map.get (recorded m now stamp k).pairs s) ≡ true) → is_spent n s ≡ true
        by_part (inl below) = below_held s below
        by_part (inr there) = by_stamp (eq_by_cmp stamp_cmp s stamp) refl (sym (ap is_some (get-insert stamp_total (map.retain_keys m.pairs (is_from (floor_at m.floor now))) stamp k s)) ∙ there)

    -- authenticators that can't come again are forgotten
    pub tidied_held : Holds (tidied m now) n
    tidied_held s is = by_part (either_of (int_lt s.0 (tidied m now).floor) (is_some (map.get (tidied m now).pairs s)) is)
      where
        by_part : (int_lt s.0 (tidied m now).floor ≡ true) ⊎ (is_some (map.get (tidied m now).pairs s) ≡ true) → is_spent n s ≡ true
        by_part (inl below) = below_held s (below_higher (tidied m now).floor (floor_at m.floor now) s.0 (floor_within m now) below)
        by_part (inr there) = there_held s (retained_there m (floor_at m.floor now) s there)

-- ---- more seen authenticators

module _ (c : Components) where
  abbrev Pairs : Type 0
  Pairs = map.FinMap stamp_cmp Kept

  with_both : (pairs : Pairs) (first others : List Seen) → with_all_seen c pairs (first ++ others) ≡ with_all_seen c (with_all_seen c pairs first) others
  with_both pairs [] others = refl
  with_both pairs (seen ∷ first) others = with_both (with_seen c pairs seen) first others

  one_grows : (pairs : Pairs) (seen : Seen) (s : Stamp) (b : Bool) → is_some (map.get pairs s) ≡ true
      → is_some (map.get (if b then map.insert pairs (stamp_seen seen) nothing_kept else pairs) s) ≡ true
  one_grows pairs seen s true there =
      ap is_some (get-insert stamp_total pairs (stamp_seen seen) nothing_kept s) ∙ some_either (eq_by_cmp stamp_cmp s (stamp_seen seen)) nothing_kept (map.get pairs s) there
  one_grows pairs seen s false there = there

  grows : (pairs : Pairs) (all : List Seen) (s : Stamp) → is_some (map.get pairs s) ≡ true → is_some (map.get (with_all_seen c pairs all) s) ≡ true
  grows pairs [] s there = there
  grows pairs (seen ∷ others) s there =
      grows (with_seen c pairs seen) others s (one_grows pairs seen s (eq_by_cmp name_cmp c seen.client.components) there)

  -- a resumption with a floor that is no lower, and with more seen authenticators
  abbrev pub extended : Resumption → ℤ → List Seen → Resumption
  extended r floor more = record { floor = floor; seen = r.seen ++ more }

  pub extended_holds : (r : Resumption) (floor : ℤ) (more : List Seen) → r.floor ≤ℤ floor → Holds (resumed_cache r c) (resumed_cache (extended r floor more) c)
  extended_holds r floor more le s is = by_part (either_of (int_lt s.0 r.floor) (is_some (map.get (resumed_cache r c).pairs s)) is)
    where
      by_part : (int_lt s.0 r.floor ≡ true) ⊎ (is_some (map.get (resumed_cache r c).pairs s) ≡ true) → is_spent (resumed_cache (extended r floor more) c) s ≡ true
      by_part (inl below) = by_first (int_lt s.0 floor) (is_some (map.get (resumed_cache (extended r floor more) c).pairs s)) (below_higher r.floor floor s.0 le below)
      by_part (inr there) =
          by_second (int_lt s.0 floor) (is_some (map.get (resumed_cache (extended r floor more) c).pairs s))
          (ap (λ pairs. is_some (map.get pairs s)) (with_both map.empty r.seen more) ∙ grows (resumed_cache r c).pairs more s there)

  -- the client's last seen authenticator is spent
  pub last_spent : (r : Resumption) (floor : ℤ) (seen : Seen) → eq_by_cmp name_cmp c seen.client.components ≡ true
      → is_spent (resumed_cache (extended r floor (seen ∷ [])) c) (stamp_seen seen) ≡ true
  last_spent r floor seen own =
      by_second (int_lt seen.ctime floor) (is_some (map.get (resumed_cache (extended r floor (seen ∷ [])) c).pairs (stamp_seen seen)))
      (ap (λ pairs. is_some (map.get pairs (stamp_seen seen)))
      (with_both map.empty r.seen (seen ∷ [])
      ∙ ap (λ b. if b then map.insert (resumed_cache r c).pairs (stamp_seen seen) nothing_kept else (resumed_cache r c).pairs) own)
      ∙ ap is_some (get-insert stamp_total (resumed_cache r c).pairs (stamp_seen seen) nothing_kept (stamp_seen seen)
      ∙ ap (λ b. cond b (Some nothing_kept) (map.get (resumed_cache r c).pairs (stamp_seen seen))) (ap is_eq (tied_itself stamp_total (stamp_seen seen)))))
