-- The text of a component is ASCII.
use Rattle.std.proofs.Common.{◌≡◌, ◌<◌, suc, ◌/◌, ◌%◌, ℕ, Bool, true, false, List, [], ◌∷◌, refl, sym, subst, arith}
use Rattle.std.specs.List.{slice_index}
use Rattle.std.specs.Str.{IsAscii}
use Rattle.std.proofs.lemmas.List.Elements.{All-cons, All-nil}
use Rattle.std.proofs.lemmas.Str.{IsAscii-append}
use Rattle.std.proofs.lemmas.Str.Ascii.{IsAscii-from_all, IsAscii-nil}
use Rattle.krb_fields.specs.NameText.{component_text, digits_of, hex_digit, is_plain, octet_text}
use Rattle.krb_fields.proofs.TextLaws.{hex_digit_is, octet_text-escaped, octet_text-plain, plain_is}

abbrev IsSmall : ℕ → Type 0
IsSmall o = o < 128

-- a slash
pub slash_ascii : IsAscii (0x2F ∷ [])
slash_ascii = IsAscii-from_all (0x2F ∷ []) (All-cons IsSmall 0x2F [] (omega arith) (All-nil IsSmall))

octet_ascii : (o : ℕ) → o < 256 → IsAscii (octet_text o)
octet_ascii o within = by_test (is_plain o) refl
  where
    by_test : (b : Bool) → is_plain o ≡ b → IsAscii (octet_text o)
    by_test true e = subst IsAscii (sym (octet_text-plain o e)) (IsAscii-from_all (o ∷ []) (All-cons IsSmall o [] (plain_is o e).0 (All-nil IsSmall)))
    by_test false e =
        let high : hex_digit (o / 16) < 128 = (hex_digit_is (o / 16) (omega (arith, within))).0 in
        let low : hex_digit (o % 16) < 128 = (hex_digit_is (o % 16) (omega arith)).0 in
        subst IsAscii (sym (octet_text-escaped o e)) (IsAscii-from_all (0x5C ∷ digits_of o) (All-cons IsSmall 0x5C (digits_of o) (omega arith)
        (All-cons IsSmall (hex_digit (o / 16)) (hex_digit (o % 16) ∷ []) high (All-cons IsSmall (hex_digit (o % 16)) [] low (All-nil IsSmall)))))

pub component_ascii : (octets : List ℕ) → ((i : ℕ) → slice_index octets i < 256) → IsAscii (component_text octets)
component_ascii [] within = IsAscii-nil
component_ascii (o ∷ octets) within =
    IsAscii-append (octet_text o) (component_text octets) (octet_ascii o (within 0)) (component_ascii octets (λ i. within (suc i)))
