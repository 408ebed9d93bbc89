-- An entry of a name within the limits, and a header of short texts, have an encoding.
use Rattle.std.proofs.Common.{◌≡◌, ◌<◌, ◌≤◌, ◌^◌, ℕ, true, false, length, refl, arith}
use Rattle.std.specs.Prelude.{nat_lt}
use Rattle.krb_der.specs.Spelling.{length_octets}
use Rattle.krb_elements.specs.Codec.{written}
use Rattle.krb_elements.specs.ShortTextLaws.{tlv_short}
use Rattle.krb_fields.specs.NameLengthLaws.{name_most}
use Rattle.krb_fields.specs.NameLimits.{IsWithinLimits}
use Rattle.journal.specs.Forms.{Entry, Header, entry, entry_form, header, header_form}

entry_most : (e : Entry) → IsWithinLimits e.client.components → entry.most e ≤ 6000
unfolding entry_form
entry_most e is = omega (arith, name_most e.client is)

pub entry_short : (e : Entry) → IsWithinLimits e.client.components → length (written entry e) < 2 ^ 32
entry_short e is = omega (arith, entry_most e is, entry.bounded e, tlv_short entry.tag (entry.text e))

header_most : (h : Header) → length h.realm ≤ 255 → length h.boot ≤ 255 → length h.link ≤ 16 → header.most h ≤ 6000
unfolding header_form
header_most h realm boot link = omega (arith, realm, boot, link)

pub header_short : (h : Header) → length h.realm ≤ 255 → length h.boot ≤ 255 → length h.link ≤ 16
    → length (written header h) < 2 ^ 32
header_short h realm boot link =
    omega (arith, header_most h realm boot link, header.bounded h, tlv_short header.tag (header.text h))

-- ---- how many octets a length has

below : (n m : ℕ) → n < m → nat_lt n m ≡ true
below n m lt = grind (arith)

above : (n m : ℕ) → m ≤ n → nat_lt n m ≡ false
above n m le = grind (arith)

pub one_length : (n : ℕ) → n < 128 → 1 ≡ length (length_octets n)
unfolding length_octets
one_length n lt = rw (below n 128 lt) refl

pub two_length : (n : ℕ) → 128 ≤ n → n < 256 → 2 ≡ length (length_octets n)
unfolding length_octets
two_length n le lt = rw (above n 128 le) (rw (below n 256 lt) refl)

pub three_length : (n : ℕ) → 256 ≤ n → n < 65536 → 3 ≡ length (length_octets n)
unfolding length_octets
three_length n le lt = rw (above n 128 (omega (arith, le))) (rw (above n 256 le) (rw (below n 65536 lt) refl))

pub four_length : (n : ℕ) → 65536 ≤ n → n < 16777216 → 4 ≡ length (length_octets n)
unfolding length_octets
four_length n le lt =
    rw (above n 128 (omega (arith, le))) (rw (above n 256 (omega (arith, le))) (rw (above n 65536 le) (rw (below n 16777216 lt) refl)))

pub five_length : (n : ℕ) → 16777216 ≤ n → 5 ≡ length (length_octets n)
unfolding length_octets
five_length n le =
    rw (above n 128 (omega (arith, le)))
    (rw (above n 256 (omega (arith, le))) (rw (above n 65536 (omega (arith, le))) (rw (above n 16777216 le) refl)))
