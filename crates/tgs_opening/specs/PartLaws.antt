-- A ticket's authorization data are no longer than the bytes that encode its encrypted part.
use Rattle.std.proofs.Common.{ℕ, ◌<◌, List, length, Option, Some, None, refl, ap, arith}
use Rattle.std.specs.Prelude.{IfSome}
use Rattle.krb_elements.specs.Codec.{sequence, list_of, string}
use Rattle.krb_elements.specs.OneSpellingLaws.{HasOneSpelling}
use Rattle.krb_elements.specs.WrittenLaws.{tlv_longer}
use Rattle.krb_fields.specs.PrincipalName.{name}
use Rattle.krb_fields.specs.Typed.{Typed, typed, typed_form}
use Rattle.krb_types.specs.EncTicketPart.{EncTicketPart, enc_ticket_part, enc_ticket_part_form}
use Rattle.encrypted_data.specs.Parts.{IsSpelledWithin}
use Rattle.krb_elements.specs.InsideLaws.{IsAtMost, IsInside, in_contents, in_optional, past_field, past_optional}
use Rattle.krb_elements.specs.InsideLaws.{part_of}

abbrev size : List Typed → ℕ
size list = length ((list_of typed).text list)

list_one : HasOneSpelling (list_of typed).Spells (list_of typed).tag (list_of typed).text
unfolding typed_form
list_one = (list_of typed).laws.one refl

list_inside : IsInside size (list_of typed).Spells (λ list. Some list)
list_inside = record {
  is = λ list bytes fits s.
      omega (arith, ap length (list_one.is list bytes fits s), tlv_longer 48 ((list_of typed).text list));
}

in_fields : IsInside size (sequence (enc_ticket_part_form typed string name (list_of typed))).Spells
    (λ x. part_of (λ list. Some list) x.authorization_data)
unfolding enc_ticket_part_form
in_fields =
    let fields = (enc_ticket_part_form typed string name (list_of typed)).fields in
    in_contents size 48 fields.Spells (λ y. part_of (λ list. Some list) y.1.1.1.1.1.1.1.1.1.1.0) fields.of
    (past_field size 160 _ _ (λ y. part_of (λ list. Some list) y.1.1.1.1.1.1.1.1.1.0)
    (past_field size 161 _ _ (λ y. part_of (λ list. Some list) y.1.1.1.1.1.1.1.1.0)
    (past_field size 162 _ _ (λ y. part_of (λ list. Some list) y.1.1.1.1.1.1.1.0)
    (past_field size 163 _ _ (λ y. part_of (λ list. Some list) y.1.1.1.1.1.1.0)
    (past_field size 164 _ _ (λ y. part_of (λ list. Some list) y.1.1.1.1.1.0)
    (past_field size 165 _ _ (λ y. part_of (λ list. Some list) y.1.1.1.1.0)
    (past_optional size 166 _ _ (λ y. part_of (λ list. Some list) y.1.1.1.0)
    (past_field size 167 _ _ (λ y. part_of (λ list. Some list) y.1.1.0)
    (past_optional size 168 _ _ (λ y. part_of (λ list. Some list) y.1.0)
    (past_optional size 169 _ _ (λ y. part_of (λ list. Some list) y.0)
    (in_optional size 170 _ _ (λ list. Some list) list_inside)))))))))))

in_part : IsInside size enc_ticket_part.Spells (λ x. part_of (λ list. Some list) x.authorization_data)
in_part =
    in_contents size 99 (sequence (enc_ticket_part_form typed string name (list_of typed))).Spells
    (λ x. part_of (λ list. Some list) x.authorization_data) (λ (x : EncTicketPart). x) in_fields

-- the text of the list, if there is one, has fewer than n bytes
abbrev pub AreFew : ℕ → Option (List Typed) → Type 0
AreFew n o = IfSome o (λ list. length ((list_of typed).text list) < n)

few : (n : ℕ) (o : Option (List Typed)) (bytes : List ℕ) → length bytes < n
    → IsAtMost size (part_of (λ list. Some list) o) bytes → AreFew n o
few n (Some list) bytes short h = omega (arith, short, h)
few n None bytes short h = tt

pub few_data : (n : ℕ) (part : EncTicketPart) (cipher : List ℕ) → length cipher < n
    → IsSpelledWithin enc_ticket_part part cipher → AreFew n part.authorization_data
few_data n part cipher short w =
    few n part.authorization_data w.octets (omega (arith, short, w.short))
    (in_part.is part w.octets w.are_bytes w.spelled)
