-- All entries of a map are before a second: none is left, and the floor is raised above the last one.
use Rattle.std.proofs.Common.{◌≡◌, ℤ, pos, ◌+ℤ◌, ◌≤ℤ◌, ◌<◌, Bool, true, false, cond, not, T, List, [], ◌∷◌, length, Some, Ordering, Less, Equal, Greater, refl, sym, ap, subst, ◌∙◌, arith}
use Rattle.std.specs.Prelude.{All, int_le, int_lt, if◌then◌else◌}
use Rattle.std.specs.Int.{int_max}
use Rattle.std.specs.Ordering.{int_cmp, is_lt, ordering_then}
use Rattle.std.specs.BTreeMap.{is_at}
use Rattle.std.specs.Map.{keys_of, lookup}
use Rattle.std.specs.FinMap.{FinMap, entries, entries-from_sorted, find, from_sorted, get-entries, is_sorted, same_entries_map}
use Rattle.std.specs.FinMap as map
use Rattle.std.specs.FinMap.Entries.{where_key}
use Rattle.std.proofs.lemmas.Cmp.{int_ranked}
use Rattle.std.proofs.lemmas.Int.{ints, clamps}
use Rattle.std.proofs.lemmas.List.Elements.{All-head, All-tail}
use Rattle.rule_lists.proofs.Ordered.{get_is}
use Rattle.replay.specs.Stamp.{Stamp, stamp_cmp, is_from}
use Rattle.replay.specs.Tidied.{raised}
use Rattle.replay.proofs.Stamps.{stamp_total}
use Rattle.replay.proofs.Raising.{below, entries-retain_keys, max_bound, max_itself, not_lower}

-- a stamp that is not above another has no later second
no_later : (a b : ℤ) (o r : Ordering) → o ≡ int_cmp a b → is_lt (ordering_then o r) ≡ false → b ≤ℤ a
no_later a b Less r is e = absurd cc
no_later a b Equal r is e = let h = int_ranked a b Equal is in omega (arith, ints)
no_later a b Greater r is e = let h = int_ranked a b Greater is in omega (arith, ints)

later_of : (k q : Stamp) → is_lt (stamp_cmp k q) ≡ false → q.0 ≤ℤ k.0
later_of k q h = no_later k.0 q.0 (int_cmp k.0 q.0) _ refl h

before_too : (k q start : ℤ) → q ≤ℤ k → not (int_lt k start) ≡ false → not (int_lt q start) ≡ false
before_too k q start le h = grind (arith, ints)

next_le : (q k : ℤ) → q ≤ℤ k → (q +ℤ pos 1) ≤ℤ (k +ℤ pos 1)
next_le q k le = omega (arith, ints)

above_last : (floor k r : ℤ) → floor ≤ℤ r → int_lt k r ≡ true → r ≤ℤ int_max floor (k +ℤ pos 1) → int_max floor (k +ℤ pos 1) ≡ r
above_last floor k r low over high = grind (arith, ints, clamps)

pub is_before : (k start : ℤ) → int_le start k ≡ false → not (int_lt k start) ≡ false
is_before k start h = grind (arith, ints)

module _ {V : Type 0} where
  no_items : (es : List (Stamp × V)) → (0 < length es → false ≡ true) → es ≡ []
  no_items [] none = refl
  no_items (e ∷ es) none = let there : false ≡ true = none (omega arith) in absurd cc

  -- a map without entries stays so, and doesn't raise the floor
  pub nothing_there : (start floor : ℤ) (es : List (Stamp × V)) (m : FinMap stamp_cmp V) → T (is_sorted stamp_cmp es) → from_sorted es ≡ m → (0 < length es → false ≡ true)
      → (m ≡ map.retain_keys m (is_from start)) × (floor ≡ raised start floor (entries m))
  nothing_there start floor es m s is_map none =
      let empty : entries m ≡ [] = ap entries (sym is_map) ∙ entries-from_sorted stamp_cmp es s ∙ no_items es none in (
        same_entries_map _ _ (empty ∙ sym (entries-retain_keys m start ∙ ap (where_key stamp_cmp (is_from start)) empty)),
        ap (raised start floor) (sym empty),
      )

  -- no key is above k, which is before the second
  module _ (start floor : ℤ) (k : Stamp) (old : is_from start k ≡ false) where
    none_from : (es : List (Stamp × V)) → All (λ q. is_lt (stamp_cmp k q) ≡ false) (keys_of es) → where_key stamp_cmp (is_from start) es ≡ []
    none_from [] all = refl
    none_from (e ∷ es) all =
        ap (λ b. cond b (e ∷ where_key stamp_cmp (is_from start) es) (where_key stamp_cmp (is_from start) es))
        (before_too k.0 e.0.0 start (later_of k e.0 (All-head (λ q. is_lt (stamp_cmp k q) ≡ false) e.0 (keys_of es) all)) old)
        ∙ none_from es (All-tail (λ q. is_lt (stamp_cmp k q) ≡ false) e.0 (keys_of es) all)

    none_higher : (es : List (Stamp × V)) → All (λ q. is_lt (stamp_cmp k q) ≡ false) (keys_of es) → raised start floor es ≤ℤ int_max floor (k.0 +ℤ pos 1)
    none_higher [] all = max_itself floor (k.0 +ℤ pos 1)
    none_higher (e ∷ es) all =
        at (none_higher es (All-tail (λ q. is_lt (stamp_cmp k q) ≡ false) e.0 (keys_of es) all)) (is_from start e.0)
      where
        at : raised start floor es ≤ℤ int_max floor (k.0 +ℤ pos 1) → (b : Bool) → (if b then raised start floor es else int_max (raised start floor es) (e.0.0 +ℤ pos 1)) ≤ℤ int_max floor (k.0 +ℤ pos 1)
        at rest true = rest
        at rest false = max_bound (raised start floor es) (e.0.0 +ℤ pos 1) floor (k.0 +ℤ pos 1) rest
            (next_le e.0.0 k.0 (later_of k e.0 (All-head (λ q. is_lt (stamp_cmp k q) ≡ false) e.0 (keys_of es) all)))

    -- once its entries are removed, the map holds those that are not before the second, and the floor is above k
    pub all_gone : (v : V) (es fs : List (Stamp × V)) (m : FinMap stamp_cmp V) → T (is_sorted stamp_cmp es) → from_sorted es ≡ m → lookup (is_at (stamp_cmp k)) es ≡ Some v
        → All (λ q. is_lt (stamp_cmp k q) ≡ false) (keys_of es) → fs ≡ []
        → (from_sorted {R = stamp_cmp} fs ≡ map.retain_keys m (is_from start)) × (int_max floor (k.0 +ℤ pos 1) ≡ raised start floor (entries m))
    all_gone v es fs m s is_map found all gone =
        let same : entries m ≡ es = ap entries (sym is_map) ∙ entries-from_sorted stamp_cmp es s in
        let held : find stamp_cmp k (entries m) ≡ Some v = sym (get-entries m k) ∙ sym (get_is stamp_cmp stamp_total es m k s is_map) ∙ found in
        let none : entries (map.retain_keys m (is_from start)) ≡ [] = entries-retain_keys m start ∙ ap (where_key stamp_cmp (is_from start)) same ∙ none_from es all in
        let high = none_higher es all in (
          ap from_sorted gone ∙ same_entries_map _ _ (entries-from_sorted stamp_cmp [] tt ∙ sym none),
          above_last floor k.0 (raised start floor (entries m)) (not_lower start floor (entries m)) (below start floor k v (entries m) held old)
              (subst (λ l. raised start floor l ≤ℤ int_max floor (k.0 +ℤ pos 1)) (sym same) high),
        )
