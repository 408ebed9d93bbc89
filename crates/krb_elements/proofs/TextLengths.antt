-- Upper bounds on the length of a value's text, which writing it requires.
use Rattle.std.proofs.Common.{ℕ, ℤ, pos, ◌+◌, ◌*◌, ◌≤◌, List, [], ◌∷◌, length, Option, Some, None, arith}
use Rattle.std.proofs.lemmas.List.{length-append}
use Rattle.krb_der.specs.Spelling.{tlv}
use Rattle.krb_der.specs.Int.{int_octets}
use Rattle.krb_der.specs.IntLaws.{int_short}
use Rattle.krb_der.specs.Time.{time_octets}
use Rattle.krb_der.proofs.TimeLaws.{length-time_octets}
use Rattle.krb_elements.specs.Simple.{microseconds_text}
use Rattle.krb_elements.specs.ShortTextLaws.{tlv_short}
use Rattle.krb_elements.specs.Written.{field_text, maybe_text, items_text}

pub microseconds_short : (n : ℕ) → length (microseconds_text n) ≤ 8
microseconds_short n = int_short (pos n)

pub time_short : (z : ℤ) → length (time_octets z) ≤ 15
time_short z = omega (arith, length-time_octets z)

pub field_short : (outer tag : ℕ) (contents : List ℕ) → length (field_text outer tag contents) ≤ length contents + 12
field_short outer tag contents = omega (arith, tlv_short outer (tlv tag contents), tlv_short tag contents)

pub optional_number_short : (outer : ℕ) (o : Option ℤ) → length (maybe_text outer 2 int_octets o) ≤ 20
optional_number_short outer None = omega arith
optional_number_short outer (Some z) = omega (arith, field_short outer 2 (int_octets z), int_short z)

pub numbers_short : (xs : List ℤ) → length (items_text 2 int_octets xs) ≤ 14 * length xs
numbers_short [] = omega arith
numbers_short (x ∷ xs) = omega (arith, length-append (tlv 2 (int_octets x)) (items_text 2 int_octets xs), tlv_short 2 (int_octets x), int_short x, numbers_short xs)
