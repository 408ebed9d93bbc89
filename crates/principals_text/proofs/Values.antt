-- JSON values, and reading each of several.
use Rattle.std.proofs.Common.{◌≡◌, ◌≢◌, ℕ, ℤ, pos, zero, suc, ◌<◌, List, [], ◌∷◌, ◌++◌, length, get_or, take, Option, Some, None, String, Global, IfSome, IfNone, ◌+◌, refl, sym, ap, subst, ◌∙◌, arith}
use Rattle.serde_json.specs.Data.{Data, null, boolean, number, string, array, object}
use Rattle.serde_json.specs.Events.{members_len}
use Rattle.serde_json.specs.Find.{as_object}
use Rattle.serde_json.specs.View.{view, items_view, members_view}
use Rattle.serde_json.specs.declared.value.Value.{Value}
use Rattle.serde_json.proofs.Views.{members_len-members_view}
use Rattle.enctypes.specs.declared.etype.Etype.{Etype}
use Rattle.enctypes.specs.Etype as etypes
use Rattle.enctypes.specs.Numbered.{type_numbered}
use Rattle.enctypes.specs.NumberedLaws.{numbered}
use Rattle.principals_text.specs.RowValue.{◌>>=◌, member_count, each}

-- an object has as many members as its map has entries
pub object_count : (d : Data) (es : List (String Global × Value)) → Some (members_view es) ≡ as_object d → length es ≡ member_count d
object_count null es e = cc
object_count (boolean b) es e = cc
object_count (number n) es e = cc
object_count (string s) es e = cc
object_count (array ds) es e = cc
object_count (object ms) es e = sym (members_len-members_view es) ∙ (let same : members_view es ≡ ms = cc in ap members_len same)

-- ---- encryption types

-- the type found for a number is the type with that number
pub etype_found : (n : ℕ) (z : ℤ) (found : Option Etype) → z ≡ pos n → IfSome found (λ e. etypes.number e ≡ z) → IfNone found ((e : Etype) → etypes.number e ≢ z) → found ≡ type_numbered (pos n)
etype_found n z found is some none = numbered z found some none ∙ ap type_numbered is

-- ---- each of several

module _ {A : Type 0} (f : Data → Option A) where
  -- one more is read
  each-more : (vs : List Value) (i : ℕ) (d : Value) (xs : List A) (x : A) → i < length vs → each f (items_view (take i vs)) ≡ Some xs → f (view (get_or vs i d)) ≡ Some x → each f (items_view (take (suc i) vs)) ≡ Some (xs ++ x ∷ [])
  each-more [] i d xs x lt before here = absurd (omega (arith, lt))
  each-more (v ∷ vs) zero d xs x lt before here = let none : [] ≡ xs = cc in rw here (ap (λ ys. Some (ys ++ x ∷ [])) none)
  each-more (v ∷ vs) (suc i) d xs x lt before here = at (f (view v)) refl (each f (items_view (take i vs))) refl before (λ ys is. each-more vs i d ys x (omega (arith, lt)) is here)
    where
      at : (o : Option A) → f (view v) ≡ o → (r : Option (List A)) → each f (items_view (take i vs)) ≡ r → (o >>= λ y. r >>= λ ys. Some (y ∷ ys)) ≡ Some xs
          → ((ys : List A) → each f (items_view (take i vs)) ≡ Some ys → each f (items_view (take (suc i) vs)) ≡ Some (ys ++ x ∷ []))
          → (o >>= λ y. each f (items_view (take (suc i) vs)) >>= λ ys. Some (y ∷ ys)) ≡ Some (xs ++ x ∷ [])
      at None p r q e more = cc
      at (Some y) p None q e more = cc
      at (Some y) p (Some ys) q e more = let same : y ∷ ys ≡ xs = cc in rw (more ys q) (ap (λ zs. Some (zs ++ x ∷ [])) same)

  pub each-push : (vs : List Value) (i : ℕ) (d : Value) (xs : List A) (x : A) → i < length vs → each f (items_view (take i vs)) ≡ Some xs → f (view (get_or vs i d)) ≡ Some x → each f (items_view (take (i + 1) vs)) ≡ Some (xs ++ x ∷ [])
  each-push vs i d xs x lt before here =
      let next : suc i ≡ i + 1 = omega arith in
      subst (λ n. each f (items_view (take n vs)) ≡ Some (xs ++ x ∷ [])) next (each-more vs i d xs x lt before here)

  -- none are read if one can't be
  pub each-fails : (vs : List Value) (i : ℕ) (d : Value) → i < length vs → f (view (get_or vs i d)) ≡ None → each f (items_view vs) ≡ None
  each-fails [] i d lt fails = absurd (omega (arith, lt))
  each-fails (v ∷ vs) zero d lt fails = rw fails refl
  each-fails (v ∷ vs) (suc i) d lt fails = rw (each-fails vs i d (omega (arith, lt)) fails) (no_more (f (view v)))
    where
      no_more : (o : Option A) → (o >>= λ y. None >>= λ ys. Some (y ∷ ys)) ≡ None
      no_more None = refl
      no_more (Some y) = refl
