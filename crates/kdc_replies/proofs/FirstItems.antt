-- The first element of a list that is being written.
use Rattle.std.proofs.Common.{◌≡◌, ℕ, ◌^◌, ◌<◌, List, ◌∷◌, length, subst, arith}
use Rattle.std.proofs.lemmas.List.{length-append}
use Rattle.krb_der.specs.Spelling.{tlv}
use Rattle.krb_elements.specs.Written.{items_text}
use Rattle.krb_elements.specs.WrittenLaws.{tlv_longer}

pub first_short : (all rest : List (List ℕ)) (x : List ℕ) → all ≡ x ∷ rest
    → length (items_text 27 (λ s. s) all) < 2 ^ 32 → length x < 2 ^ 32
first_short all rest x is short =
    omega (
      arith,
      subst (λ (l : List (List ℕ)). length (items_text 27 (λ s. s) l) < 2 ^ 32) is short,
      length-append (tlv 27 x) (items_text 27 (λ s. s) rest),
      tlv_longer 27 x,
    )
