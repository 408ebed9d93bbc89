-- An element that passes a test stands in the list that the test leaves, and the other way round.
use Rattle.std.proofs.Common.{◌≡◌, ℕ, zero, suc, Bool, true, false, cond, List, [], ◌∷◌, map, Some, None, refl, ap, ◌∙◌, sym}
use Rattle.std.specs.List.{filter, find, slice_get}
use Rattle.std.specs.Option.{option_map}

-- It is there.
pub place_in_filter : {X : Type 0} (p : X → Bool) (xs : List X) (i : ℕ) (x : X) → slice_get xs i ≡ Some x → p x ≡ true → (k : ℕ) × (slice_get (filter p xs) k ≡ Some x)
place_in_filter p [] i x at passes = absurd (cc)
place_in_filter p (y ∷ ys) zero x at passes =
    let same : y ≡ x = cc in
    let passed : p y ≡ true = ap p same ∙ passes in
    (0, ap (λ b. slice_get (cond b (y ∷ filter p ys) (filter p ys)) 0) passed ∙ at)
place_in_filter p (y ∷ ys) (suc i) x at passes =
    let found = place_in_filter p ys i x at passes in
    elim (p y) as (λ b. (k : ℕ) × (slice_get (cond b (y ∷ filter p ys) (filter p ys)) k ≡ Some x)) [
      | true ↦ (suc found.0, found.1)
      | false ↦ found
    ]

first_or_later : {X : Type 0} (p : X → Bool) (y : X) (ys : List X) (x : X) → ((k : ℕ) (x : X) → slice_get (filter p ys) k ≡ Some x → ((i : ℕ) × (slice_get ys i ≡ Some x)) × (p x ≡ true)) → (b : Bool) → p y ≡ b → (k : ℕ) → slice_get (cond b (y ∷ filter p ys) (filter p ys)) k ≡ Some x → ((i : ℕ) × (slice_get (y ∷ ys) i ≡ Some x)) × (p x ≡ true)
first_or_later p y ys x later true is zero at = let same : y ≡ x = cc in ((0, at), sym (ap p same) ∙ is)
first_or_later p y ys x later true is (suc k) at = let found = later k x at in ((suc found.0.0, found.0.1), found.1)
first_or_later p y ys x later false is k at = let found = later k x at in ((suc found.0.0, found.0.1), found.1)

-- It stands in the list, and passes.
pub place_from_filter : {X : Type 0} (p : X → Bool) (xs : List X) (k : ℕ) (x : X) → slice_get (filter p xs) k ≡ Some x → ((i : ℕ) × (slice_get xs i ≡ Some x)) × (p x ≡ true)
place_from_filter p [] k x at = absurd (cc)
place_from_filter p (y ∷ ys) k x at =
    first_or_later p y ys x (place_from_filter p ys) (p y) refl k at

pub slice_get-map : {X Y : Type 0} (f : X → Y) (xs : List X) (k : ℕ) → slice_get (map f xs) k ≡ option_map f (slice_get xs k)
slice_get-map f [] k = refl
slice_get-map f (x ∷ xs) zero = refl
slice_get-map f (x ∷ xs) (suc k) = slice_get-map f xs k

-- What is found first stands in the list, and passes.
pub place_from_find : {X : Type 0} (p : X → Bool) (xs : List X) (x : X) → find p xs ≡ Some x → ((i : ℕ) × (slice_get xs i ≡ Some x)) × (p x ≡ true)
place_from_find p [] x found = absurd (cc)
place_from_find p (y ∷ ys) x found = by_first p y ys x (place_from_find p ys x) (p y) refl found
  where
    by_first : {X : Type 0} (p : X → Bool) (y : X) (ys : List X) (x : X) → (find p ys ≡ Some x → ((i : ℕ) × (slice_get ys i ≡ Some x)) × (p x ≡ true)) → (b : Bool) → p y ≡ b → cond b (Some y) (find p ys) ≡ Some x → ((i : ℕ) × (slice_get (y ∷ ys) i ≡ Some x)) × (p x ≡ true)
    by_first p y ys x later true is found = let same : y ≡ x = cc in ((0, found), sym (ap p same) ∙ is)
    by_first p y ys x later false is found = let there = later found in ((suc there.0.0, there.0.1), there.1)

-- If none is found, none passes.
pub fails_from_find : {X : Type 0} (p : X → Bool) (xs : List X) → find p xs ≡ None → (i : ℕ) (x : X) → slice_get xs i ≡ Some x → p x ≡ false
fails_from_find p [] none i x at = absurd (cc)
fails_from_find p (y ∷ ys) none i x at = by_first p y ys (fails_from_find p ys) (p y) refl none i x at
  where
    by_first : {X : Type 0} (p : X → Bool) (y : X) (ys : List X) → (find p ys ≡ None → (i : ℕ) (x : X) → slice_get ys i ≡ Some x → p x ≡ false) → (b : Bool) → p y ≡ b → cond b (Some y) (find p ys) ≡ None → (i : ℕ) (x : X) → slice_get (y ∷ ys) i ≡ Some x → p x ≡ false
    by_first p y ys later true is none i x at = absurd (cc)
    by_first p y ys later false is none zero x at = let same : y ≡ x = cc in sym (ap p same) ∙ is
    by_first p y ys later false is none (suc i) x at = later none i x at
