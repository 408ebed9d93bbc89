-- Lengths of what is written.
use Rattle.std.proofs.Common.{◌≡◌, ℕ, ◌^◌, ◌<◌, List, [], ◌∷◌, length, get_or, drop, suc, drop-cons, sym, ap, subst}
use Rattle.std.proofs.Common.{◌∙◌, arith}
use Rattle.std.proofs.lemmas.List.{append-nil, length-append}
use Rattle.krb_der.specs.Spelling.{tlv, length_octets, IsBytes}
use Rattle.krb_der.specs.Laws.{contents_fit}
use Rattle.krb_elements.specs.Written.{items_text}

-- a value is longer than its contents
pub tlv_longer : (tag : ℕ) (contents : List ℕ) → length contents < length (tlv tag contents)
unfolding tlv
tlv_longer tag contents = omega (arith, length-append (length_octets (length contents)) contents)

pub inside_fits : (tag : ℕ) (bytes contents : List ℕ) → IsBytes bytes → bytes ≡ tlv tag contents → IsBytes contents
inside_fits tag bytes contents fits e =
    contents_fit tag bytes contents [] fits (e ∙ sym (append-nil (tlv tag contents)))

-- an element's text is no longer than that of the elements from it on
pub item_short : {A : Type 0} (tag : ℕ) (text : A → List ℕ) (xs : List A) (i : ℕ) (x : A) → i < length xs
    → x ≡ get_or xs i x
    → length (items_text tag text (drop i xs)) < 2 ^ 32 → length (text x) < 2 ^ 32
item_short {A} tag text xs i x lt is short =
    let here : drop i xs ≡ x ∷ drop (suc i) xs = rw (drop-cons xs i x) (ap (λ (y : A). y ∷ drop (suc i) xs) (sym is)) in
    omega (
      arith,
      subst (λ (l : List A). length (items_text tag text l) < 2 ^ 32) here short,
      length-append (tlv tag (text x)) (items_text tag text (drop (suc i) xs)),
      tlv_longer tag (text x),
    )
