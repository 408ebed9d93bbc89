-- The elements of a list, one by one.
use Rattle.std.proofs.Common.{◌≡◌, ℕ, zero, suc, ◌^◌, ◌≤◌, ◌<◌, List, [], ◌∷◌, ◌++◌, length, Result, Ok, Err, refl, ap}
use Rattle.std.proofs.Common.{◌∙◌, arith}
use Rattle.krb_der.specs.declared.fault.DerFault.{DerFault}
use Rattle.krb_der.specs.Spelling.{tlv}
use Rattle.krb_der.specs.Reading.{◌>>=◌, tlv_at}
use Rattle.krb_der.specs.StepLaws.{bind_ok, ok_is}
use Rattle.krb_der.specs.Laws.{tlv_shorter, tlv_again}
use Rattle.krb_der.specs.Items.{element_at, first_and, elements_from, elements}

-- an element takes at least a byte
pub element_shorter : (bytes element rest : List ℕ) → element_at bytes ≡ Ok (element, rest) → length rest < length bytes
unfolding element_at
element_shorter [] element rest e = absurd cc
element_shorter (tag ∷ bytes) element rest e =
    let b = bind_ok (tlv_at tag (tag ∷ bytes)) (λ c. Ok (tlv tag c.0, c.1)) (element, rest) e in
    let left : b.0.1 ≡ rest = ap (λ (p : List ℕ × List ℕ). p.1) (ok_is _ _ b.2) in
    rw (← left) (tlv_shorter tag (tag ∷ bytes) b.0.0 b.0.1 b.1)

same_first : (r : Result (List ℕ × List ℕ) DerFault) (f g : List ℕ → List (List ℕ))
    → ((x : List ℕ × List ℕ) → r ≡ Ok x → f x.1 ≡ g x.1) → first_and r f ≡ first_and r g
same_first (Ok x) f g h = ap (λ l. x.0 ∷ l) (h x refl)
same_first (Err e) f g h = refl

-- any two maximum numbers of elements give the same, if neither is below the number of bytes
elements_more : (n m : ℕ) (bytes : List ℕ) → length bytes ≤ n → length bytes ≤ m
    → elements_from n bytes ≡ elements_from m bytes
unfolding elements_from element_at
elements_more zero zero bytes ln lm = refl
elements_more zero (suc m) [] ln lm = refl
elements_more zero (suc m) (b ∷ bytes) ln lm = absurd (omega arith)
elements_more (suc n) zero [] ln lm = refl
elements_more (suc n) zero (b ∷ bytes) ln lm = absurd (omega arith)
elements_more (suc n) (suc m) bytes ln lm =
    same_first (element_at bytes) (elements_from n) (elements_from m) (λ x e.
    elements_more n m x.1 (omega (arith, element_shorter bytes x.0 x.1 e))
    (omega (arith, element_shorter bytes x.0 x.1 e)))

pub elements_none : (bytes : List ℕ) (e : DerFault) → element_at bytes ≡ Err e → elements bytes ≡ []
unfolding elements_from
elements_none [] e h = refl
elements_none (b ∷ bytes) e h = ap (λ r. first_and r (elements_from (length bytes))) h

pub elements_first : (bytes element rest : List ℕ) → element_at bytes ≡ Ok (element, rest)
    → elements bytes ≡ element ∷ elements rest
unfolding elements_from element_at
elements_first [] element rest h = absurd cc
elements_first (b ∷ bytes) element rest h =
    ap (λ r. first_and r (elements_from (length bytes))) h
    ∙ ap (λ l. element ∷ l) (elements_more (length bytes) (length rest) rest
    (omega (arith, element_shorter (b ∷ bytes) element rest h)) (omega arith))

-- a value at the front is the first element
pub elements_tlv : (tag : ℕ) (contents rest : List ℕ) → length contents < 2 ^ 32
    → elements (tlv tag contents ++ rest) ≡ tlv tag contents ∷ elements rest
unfolding element_at tlv
elements_tlv tag contents rest lt =
    elements_first (tlv tag contents ++ rest) (tlv tag contents) rest
    (ap (λ r. r >>= λ c. Ok (tlv tag c.0, c.1)) (tlv_again tag contents rest lt))
