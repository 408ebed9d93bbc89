-- A component whose bytes are all written as they are is its own text.
use Rattle.std.proofs.Common.{◌≡◌, ℕ, Bool, true, false, List, [], ◌∷◌, ◌++◌, refl, ap, ◌∙◌, if◌then◌else◌}
use Rattle.std.specs.List.{list_all}
use Rattle.std.proofs.lemmas.Bool.{and_parts}
use Rattle.krb_fields.specs.NameText.{component_text, digits_of, is_plain, octet_text}

by_true : (o : ℕ) (b : Bool) → b ≡ true → (if b then o ∷ [] else 0x5C ∷ digits_of o) ≡ o ∷ []
by_true o true e = refl
by_true o false e = absurd cc

octet_so : (o : ℕ) → is_plain o ≡ true → octet_text o ≡ o ∷ []
unfolding octet_text
octet_so o e = by_true o (is_plain o) e

pub plain_so : (octets : List ℕ) → list_all is_plain octets ≡ true → component_text octets ≡ octets
plain_so [] e = refl
plain_so (o ∷ octets) e =
    ap (λ text. text ++ component_text octets) (octet_so o (and_parts _ _ e).0)
    ∙ ap (λ text. o ∷ text) (plain_so octets (and_parts _ _ e).1)
