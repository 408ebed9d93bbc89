-- An entry and a header have one spelling.
use Rattle.std.proofs.Common.{◌≡◌, ℕ, List, Result, Ok, Err, refl}
use Rattle.std.specs.Prelude.{IfOk}
use Rattle.krb_der.specs.Spelling.{tlv, IsBytes}
use Rattle.krb_elements.specs.OneSpellingLaws.{HasOneSpelling}
use Rattle.krb_fields.specs.PrincipalName.{name_form}
use Rattle.journal.specs.Forms.{entry, entry_form, header, header_form}

pub header_one : HasOneSpelling header.Spells header.tag header.text
unfolding header_form
header_one = header.laws.one refl

pub entry_one : HasOneSpelling entry.Spells entry.tag entry.text
unfolding entry_form name_form
entry_one = entry.laws.one refl

-- what was read is written as it came
pub one_if_read : {A E : Type 0} (S : A → List ℕ → Type 0) (tag : ℕ) (text : A → List ℕ) → HasOneSpelling S tag text
    → (r : Result A E) (bytes : List ℕ) → IsBytes bytes → IfOk r (λ x. S x bytes) → IfOk r (λ x. bytes ≡ tlv tag (text x))
one_if_read S tag text one (Ok x) bytes fits found = one.is x bytes fits found
one_if_read S tag text one (Err e) bytes fits found = tt
