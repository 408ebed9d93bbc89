-- The floor after a tidying: its bounds, that everything forgotten is below it, and that an earlier tidying makes no
-- difference.
use Rattle.std.proofs.Common.{◌≡◌, ℕ, ℤ, pos, ◌+ℤ◌, ◌-ℤ◌, ◌≤ℤ◌, Bool, true, false, cond, not, T, List, [], ◌∷◌, drop, length, Option, Some, None, IfSome, IfNone, Equal, refl, sym, ap, ◌∙◌, arith}
use Rattle.std.specs.Prelude.{int_lt, if◌then◌else◌}
use Rattle.std.specs.Int.{int_max}
use Rattle.std.specs.Ordering.{eq_by_cmp}
use Rattle.std.specs.Cmp.{Equal-is}
use Rattle.std.specs.FinMap.{FinMap, entries, entries_sorted, entries-from_sorted, find, from_sorted, get-entries, get-from_sorted, get-retain_keys, is_sorted, len-entries, len-empty, same_map}
use Rattle.std.specs.FinMap as map
use Rattle.std.specs.FinMap.Entries.{where_key, find-where_key, is_sorted-where_key}
use Rattle.std.proofs.lemmas.Int.{ints, clamps}
use Rattle.krb_fields.specs.Skew.{skew}
use Rattle.replay.specs.ReplayCache.{floor_at}
use Rattle.replay.specs.Stamp.{Stamp, stamp_cmp, is_from}
use Rattle.replay.specs.Tidied.{day, floor_on, raised, raised_if, tidied}
use Rattle.replay.specs.declared.cache.ReplayCache.{ReplayCache}
use Rattle.replay.proofs.Stamps.{stamp_total, stamp_exact}
use Rattle.replay.proofs.Before.{before, forgotten}

swap : (a b c : ℤ) → int_max (int_max a b) c ≡ int_max (int_max a c) b
swap a b c = grind (arith, ints, clamps)

max_rises : (a b c : ℤ) → a ≤ℤ b → a ≤ℤ int_max b c
max_rises a b c le = grind (arith, ints, clamps)

pub max_bound : (a b c d : ℤ) → a ≤ℤ int_max c d → b ≤ℤ d → int_max a b ≤ℤ int_max c d
max_bound a b c d p q = grind (arith, ints, clamps)

pub max_itself : (a b : ℤ) → a ≤ℤ int_max a b
max_itself a b = grind (arith, ints, clamps)

le_itself : (a : ℤ) → a ≤ℤ a
le_itself a = omega (arith, ints)

next_by : (ctime start : ℤ) → not (int_lt ctime start) ≡ false → (ctime +ℤ pos 1) ≤ℤ start
next_by ctime start h = grind (arith, ints)

low_next : (ctime floor : ℤ) → int_lt ctime (int_max floor (ctime +ℤ pos 1)) ≡ true
low_next ctime floor = grind (arith, ints, clamps)

low_more : (ctime floor other : ℤ) → int_lt ctime floor ≡ true → int_lt ctime (int_max floor other) ≡ true
low_more ctime floor other h = grind (arith, ints, clamps)

from_earlier : (low high ctime : ℤ) → low ≤ℤ high → not (int_lt ctime low) ≡ false → not (int_lt ctime high) ≡ false
from_earlier low high ctime le h = grind (arith, ints)

no_entries : {A : Type 0} (l : List A) → length l ≡ 0 → l ≡ []
no_entries [] e = refl
no_entries (x ∷ l) e = absurd (omega (arith, e))

module _ {V : Type 0} where
  -- starting from a higher floor is like having one more to stay above
  pull : (start floor high : ℤ) (es : List (Stamp × V)) → raised start (int_max floor high) es ≡ int_max (raised start floor es) high
  pull start floor high [] = refl
  pull start floor high (e ∷ es) = at (pull start floor high es) (is_from start e.0)
    where
      at : raised start (int_max floor high) es ≡ int_max (raised start floor es) high → (b : Bool)
          → (if b then raised start (int_max floor high) es else int_max (raised start (int_max floor high) es) (e.0.0 +ℤ pos 1)) ≡ int_max (if b then raised start floor es else int_max (raised start floor es) (e.0.0 +ℤ pos 1)) high
      at rest true = rest
      at rest false = ap (λ f. int_max f (e.0.0 +ℤ pos 1)) rest ∙ swap (raised start floor es) high (e.0.0 +ℤ pos 1)

  pub not_lower : (start floor : ℤ) (es : List (Stamp × V)) → floor ≤ℤ raised start floor es
  not_lower start floor [] = le_itself floor
  not_lower start floor (e ∷ es) = at (not_lower start floor es) (is_from start e.0)
    where
      at : floor ≤ℤ raised start floor es → (b : Bool) → floor ≤ℤ (if b then raised start floor es else int_max (raised start floor es) (e.0.0 +ℤ pos 1))
      at rest true = rest
      at rest false = max_rises floor (raised start floor es) (e.0.0 +ℤ pos 1) rest

  not_higher : (start floor : ℤ) (es : List (Stamp × V)) → raised start floor es ≤ℤ int_max floor start
  not_higher start floor [] = max_itself floor start
  not_higher start floor (e ∷ es) = at (not_higher start floor es) (is_from start e.0) refl
    where
      at : raised start floor es ≤ℤ int_max floor start → (b : Bool) → is_from start e.0 ≡ b → (if b then raised start floor es else int_max (raised start floor es) (e.0.0 +ℤ pos 1)) ≤ℤ int_max floor start
      at rest true is = rest
      at rest false is = max_bound (raised start floor es) (e.0.0 +ℤ pos 1) floor start rest (next_by e.0.0 start is)

  -- an entry before the second is below it
  pub below : (start floor : ℤ) (q : Stamp) (v : V) (es : List (Stamp × V)) → find stamp_cmp q es ≡ Some v → is_from start q ≡ false → int_lt q.0 (raised start floor es) ≡ true
  below start floor q v [] found old = cc
  below start floor q v (e ∷ es) found old = at (below start floor q v es) (eq_by_cmp stamp_cmp q e.0) refl found
    where
      later : (b : Bool) → int_lt q.0 (raised start floor es) ≡ true → int_lt q.0 (if b then raised start floor es else int_max (raised start floor es) (e.0.0 +ℤ pos 1)) ≡ true
      later true low = low
      later false low = low_more q.0 (raised start floor es) (e.0.0 +ℤ pos 1) low

      here : (b : Bool) → is_from start e.0 ≡ b → q ≡ e.0 → int_lt q.0 (if b then raised start floor es else int_max (raised start floor es) (e.0.0 +ℤ pos 1)) ≡ true
      here true is same = let early : is_from start e.0 ≡ false = ap (is_from start) (sym same) ∙ old in cc
      here false is same = ap (λ (s : Stamp). int_lt s.0 (int_max (raised start floor es) (e.0.0 +ℤ pos 1))) same ∙ low_next e.0.0 (raised start floor es)

      at : (find stamp_cmp q es ≡ Some v → is_from start q ≡ false → int_lt q.0 (raised start floor es) ≡ true) → (t : Bool) → eq_by_cmp stamp_cmp q e.0 ≡ t → cond t (Some e.1) (find stamp_cmp q es) ≡ Some v
          → int_lt q.0 (if is_from start e.0 then raised start floor es else int_max (raised start floor es) (e.0.0 +ℤ pos 1)) ≡ true
      at rest true tied f = here (is_from start e.0) refl (stamp_exact q e.0 ((Equal-is (stamp_cmp q e.0)).0 tied))
      at rest false tied f = later (is_from start e.0) (rest f old)

  -- if those before an earlier second were removed, and the floor was raised above them
  in_two : (low high floor : ℤ) → low ≤ℤ high → (es : List (Stamp × V)) → raised high (raised low floor es) (where_key stamp_cmp (is_from low) es) ≡ raised high floor es
  in_two low high floor le [] = refl
  in_two low high floor le (e ∷ es) = at (in_two low high floor le es) (is_from low e.0) refl
    where
      next : (b : Bool) → is_from high e.0 ≡ b → is_from low e.0 ≡ false → raised high (raised low floor es) (where_key stamp_cmp (is_from low) es) ≡ raised high floor es
          → raised high (int_max (raised low floor es) (e.0.0 +ℤ pos 1)) (where_key stamp_cmp (is_from low) es) ≡ (if b then raised high floor es else int_max (raised high floor es) (e.0.0 +ℤ pos 1))
      next true is old rest = let early : is_from high e.0 ≡ false = from_earlier low high e.0.0 le old in cc
      next false is old rest = pull high (raised low floor es) (e.0.0 +ℤ pos 1) (where_key stamp_cmp (is_from low) es) ∙ ap (λ f. int_max f (e.0.0 +ℤ pos 1)) rest

      at : raised high (raised low floor es) (where_key stamp_cmp (is_from low) es) ≡ raised high floor es → (b : Bool) → is_from low e.0 ≡ b
          → raised high (if b then raised low floor es else int_max (raised low floor es) (e.0.0 +ℤ pos 1)) (cond b (e ∷ where_key stamp_cmp (is_from low) es) (where_key stamp_cmp (is_from low) es))
          ≡ (if is_from high e.0 then raised high floor es else int_max (raised high floor es) (e.0.0 +ℤ pos 1))
      at rest true is = ap (λ f. if is_from high e.0 then f else int_max f (e.0.0 +ℤ pos 1)) rest
      at rest false is = next (is_from high e.0) refl is rest

  -- the entries that are left don't raise the floor
  none_left : (start floor : ℤ) (es : List (Stamp × V)) → raised start floor (where_key stamp_cmp (is_from start) es) ≡ floor
  none_left start floor [] = refl
  none_left start floor (e ∷ es) = at (none_left start floor es) (is_from start e.0) refl
    where
      at : raised start floor (where_key stamp_cmp (is_from start) es) ≡ floor → (b : Bool) → is_from start e.0 ≡ b → raised start floor (cond b (e ∷ where_key stamp_cmp (is_from start) es) (where_key stamp_cmp (is_from start) es)) ≡ floor
      at rest true is = ap (λ b. if b then raised start floor (where_key stamp_cmp (is_from start) es) else int_max (raised start floor (where_key stamp_cmp (is_from start) es)) (e.0.0 +ℤ pos 1)) is ∙ rest
      at rest false is = rest

  entries-empty : entries (map.empty {X = V} {R = stamp_cmp}) ≡ []
  entries-empty = no_entries (entries map.empty) (sym (len-entries map.empty) ∙ len-empty stamp_cmp V)

  pub entries-retain_keys : (m : FinMap stamp_cmp V) (start : ℤ) → entries (map.retain_keys m (is_from start)) ≡ where_key stamp_cmp (is_from start) (entries m)
  entries-retain_keys m start =
      let sorted = is_sorted-where_key stamp_cmp (is_from start) (entries m) (entries_sorted m) in
      let alike = λ (q x : Stamp) (t : stamp_cmp q x ≡ Equal). ap (is_from start) (sym (stamp_exact q x t)) in
      ap entries (same_map stamp_total stamp_exact (map.retain_keys m (is_from start)) (from_sorted (where_key stamp_cmp (is_from start) (entries m))) (λ q.
      get-retain_keys m (is_from start) q (alike q) ∙ ap (λ f. cond (is_from start q) f None) (get-entries m q)
      ∙ sym (get-from_sorted stamp_cmp (where_key stamp_cmp (is_from start) (entries m)) q sorted ∙ find-where_key stamp_cmp (is_from start) q (alike q) (entries m))))
      ∙ entries-from_sorted stamp_cmp (where_key stamp_cmp (is_from start) (entries m)) sorted

  -- ---- the loop that removes them from the front

  -- one is removed
  pub one_off : (start floor above next : ℤ) (r : Option (Stamp × V)) (all old new : List (Stamp × V)) → raised start above old ≡ raised start floor all
      → next ≡ raised_if start above r → IfSome r (λ e. old ≡ e ∷ new) → IfNone r (new ≡ old) → raised start next new ≡ raised start floor all
  one_off start floor above next (Some e) all old new so_far is taken none =
      ap (λ f. raised start f new) is ∙ at (is_from start e.0) ∙ sym (ap (raised start above) taken) ∙ so_far
    where
      at : (b : Bool) → raised start (if b then above else int_max above (e.0.0 +ℤ pos 1)) new ≡ (if b then raised start above new else int_max (raised start above new) (e.0.0 +ℤ pos 1))
      at true = refl
      at false = pull start above (e.0.0 +ℤ pos 1) new
  one_off start floor above next None all old new so_far is taken none = (λ i. raised start (is i) (none i)) ∙ so_far

  -- all are removed
  pub all_off : (start floor above : ℤ) (es fs : List (Stamp × V)) (m : FinMap stamp_cmp V) (n : ℕ) → T (is_sorted stamp_cmp es) → from_sorted es ≡ m → n ≡ length (before start es) → fs ≡ drop n es
      → raised start above fs ≡ raised start floor es → above ≡ raised start floor (entries m)
  all_off start floor above es fs m n s is_map count is so_far =
      let left = forgotten start es fs n s count is in
      let same : entries (from_sorted {R = stamp_cmp} es) ≡ es = entries-from_sorted stamp_cmp es s in
      let others : fs ≡ where_key stamp_cmp (is_from start) es =
      sym (entries-from_sorted stamp_cmp fs left.0) ∙ ap entries left.1 ∙ entries-retain_keys (from_sorted es) start ∙ ap (where_key stamp_cmp (is_from start)) same in
      sym (none_left start above es) ∙ ap (raised start above) (sym others) ∙ so_far ∙ ap (raised start floor) (sym same ∙ ap entries is_map)

-- ---- the floor of a tidied cache

within_day : (above floor at : ℤ) → above ≤ℤ int_max floor (int_max floor (at -ℤ pos skew)) → int_max above (at -ℤ pos day) ≤ℤ int_max floor (at -ℤ pos skew)
within_day above floor at le = grind (arith, ints, clamps)

day_later : (above low high : ℤ) → low ≤ℤ high → int_max (int_max above (low -ℤ pos day)) (high -ℤ pos day) ≡ int_max above (high -ℤ pos day)
day_later above low high le = grind (arith, ints, clamps)

pub floor_on_empty : (V : Type 0) (start floor now : ℤ) → floor_on (raised start floor (entries (map.empty {X = V} {R = stamp_cmp}))) now ≡ floor_on floor now
floor_on_empty V start floor now = ap (λ es. floor_on (raised start floor es) now) (entries-empty {V = V})

module _ {V : Type 0} (m : ReplayCache V) (at : ℤ) where
  pub floor_rises : m.floor ≤ℤ (tidied m at).floor
  floor_rises = max_rises m.floor (raised (floor_at m.floor at) m.floor (entries m.pairs)) (at -ℤ pos day) (not_lower (floor_at m.floor at) m.floor (entries m.pairs))

  pub floor_within : (tidied m at).floor ≤ℤ floor_at m.floor at
  floor_within = within_day (raised (floor_at m.floor at) m.floor (entries m.pairs)) m.floor at (not_higher (floor_at m.floor at) m.floor (entries m.pairs))

  -- everything forgotten is below it
  pub forgotten_low : (s : Stamp) (k : V) → map.get m.pairs s ≡ Some k → is_from (floor_at m.floor at) s ≡ false → int_lt s.0 (tidied m at).floor ≡ true
  forgotten_low s k held old =
      low_more s.0 (raised (floor_at m.floor at) m.floor (entries m.pairs)) (at -ℤ pos day)
      (below (floor_at m.floor at) m.floor s k (entries m.pairs) (sym (get-entries m.pairs s) ∙ held) old)

  -- tidying twice gives the floor of one tidying
  pub floor_twice : (now high : ℤ) → at ≤ℤ now → floor_at m.floor at ≤ℤ high
      → floor_on (raised high (tidied m at).floor (entries (tidied m at).pairs)) now ≡ floor_on (raised high m.floor (entries m.pairs)) now
  floor_twice now high le higher =
      let left = where_key stamp_cmp (is_from (floor_at m.floor at)) (entries m.pairs) in
      ap (λ l. floor_on (raised high (tidied m at).floor l) now) (entries-retain_keys m.pairs (floor_at m.floor at))
      ∙ ap (λ f. floor_on f now) (pull high (raised (floor_at m.floor at) m.floor (entries m.pairs)) (at -ℤ pos day) left ∙ ap (λ f. int_max f (at -ℤ pos day)) (in_two (floor_at m.floor at) high m.floor higher (entries m.pairs)))
      ∙ day_later (raised high m.floor (entries m.pairs)) at now le

-- from the computed values: where the forgotten pairs end, the floor above them, the new floor, and what is left
pub tidies : {V : Type 0} (m : ReplayCache V) (now start above floor : ℤ) (left : FinMap stamp_cmp V) → start ≡ floor_at m.floor now → above ≡ raised start m.floor (entries m.pairs) → left ≡ map.retain_keys m.pairs (is_from start)
    → floor ≡ floor_on above now → ◌≡◌ {A = ReplayCache V} (record { failures = m.failures; floor = floor; pairs = left }) (tidied m now)
tidies m now start above floor left start_is above_is left_is floor_is =
    let floors : floor ≡ (tidied m now).floor = floor_is ∙ ap (λ f. floor_on f now) (above_is ∙ ap (λ s. raised s m.floor (entries m.pairs)) start_is) in
    let pairs : left ≡ (tidied m now).pairs = left_is ∙ ap (λ s. map.retain_keys m.pairs (is_from s)) start_is in
    λ i. record { failures = m.failures; floor = floors i; pairs = pairs i }
