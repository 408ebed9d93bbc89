-- A queue has each number once, whatever is taken or appended.
use Rattle.std.proofs.Common.{◌≡◌, ◌++◌, ◌||◌, ℕ, Bool, true, false, if◌then◌else◌, List, [], ◌∷◌, Option, Some, None, option_to_list, nat_eq, refl, ap, ◌∙◌, sym, subst}
use Rattle.std.specs.Prelude.{IfSome}
use Rattle.std.specs.Cmp.{nat_eq_equiv}
use Rattle.std.specs.List.{AllByRecursion, IsDistinct, list_any}
use Rattle.std.proofs.lemmas.Map.Keys.{IsDistinct-head, IsDistinct-tail, IsDistinct-push}
use Rattle.kdc_sockets.specs.Queue.{HasEachOnce, has}

-- An empty queue has none twice.
pub once_none : (numbers : List ℕ) → numbers ≡ [] → HasEachOnce numbers
unfolding IsDistinct
once_none numbers none = subst HasEachOnce (sym none) tt

flipped : (number : ℕ) (numbers : List ℕ) → list_any (nat_eq number) numbers ≡ has numbers number
flipped number [] = refl
flipped number (other ∷ numbers) =
    ap (λ b. b || list_any (nat_eq number) numbers) (nat_eq_equiv.symm number other) ∙ ap (λ b. nat_eq other number || b) (flipped number numbers)

none_later : (number : ℕ) (numbers : List ℕ) → AllByRecursion (λ other. nat_eq number other ≡ false) numbers → has numbers number ≡ false
none_later number [] apart = refl
none_later number (other ∷ numbers) apart =
    ap (λ b. b || has numbers number) (sym (nat_eq_equiv.symm number other) ∙ apart.0) ∙ none_later number numbers apart.1

-- What is taken from the front stands there no longer, and the rest has each once.
pub taken : (old new : List ℕ) (first : Option ℕ) → old ≡ option_to_list first ++ new → HasEachOnce old → HasEachOnce new × IfSome first (λ number. has new number ≡ false)
taken old new None is once = (subst HasEachOnce is once, tt)
taken old new (Some number) is once =
    let all : HasEachOnce (number ∷ new) = subst HasEachOnce is once in
    (IsDistinct-tail nat_eq number new all, none_later number new (IsDistinct-head nat_eq number new all))

-- What did not stand there may be appended.
pub appended : (old new : List ℕ) (number : ℕ) (ok : Bool) → new ≡ (if ok then old ++ number ∷ [] else old) → has old number ≡ false → HasEachOnce old → HasEachOnce new
appended old new number true is apart once =
    subst HasEachOnce (sym is) (IsDistinct-push nat_eq_equiv old number once (flipped number old ∙ apart))
appended old new number false is apart once = subst HasEachOnce (sym is) once
