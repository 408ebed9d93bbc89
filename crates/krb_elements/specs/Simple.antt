-- The simple types of Kerberos (RFC 4120, section 5.2): which bytes encode them, and how they are read.
use Rattle.std.specs.Prelude.{◌≡◌, ℕ, ℤ, pos, negsuc, ◌<◌, ◌^◌, int_lt, ◌||◌, not, Bool, IsTrue, List, ◌∷◌, length}
use Rattle.std.specs.Prelude.{Result, unsigned_abs}
use Rattle.std.specs.Int.{w32, to_be_bytes}
use Rattle.krb_der.specs.declared.fault.DerFault.{DerFault}
use Rattle.krb_der.specs.declared.fault.DerFault.TheVariants.{BadInteger}
use Rattle.krb_der.specs.Spelling.{tlv}
use Rattle.krb_der.specs.Int.{Int, int_octets}
use Rattle.krb_der.specs.Bits.{Bits}
use Rattle.krb_der.specs.Reading.{int_at, bits_at}
use Rattle.krb_elements.specs.Spells.{Such, SeenAs}
use Rattle.krb_elements.specs.Format.{such, seen_as}

abbrev pub is_within : ℤ → ℤ → ℤ → Bool
is_within low high z = not (int_lt z low || int_lt high z)

-- ---- Int32 (section 5.2.4): an INTEGER from -2147483648 to 2147483647

abbrev pub IsInt32 : ℤ → Type 0
IsInt32 z = IsTrue (is_within (negsuc 2147483647) (pos 2147483647) z)

abbrev pub Int32 : ℤ → List ℕ → Type 0
Int32 = Such (is_within (negsuc 2147483647) (pos 2147483647)) Int

unfoldable pub int32_at : List ℕ → Result (ℤ × List ℕ) DerFault
int32_at = such (is_within (negsuc 2147483647) (pos 2147483647)) BadInteger int_at

-- ---- UInt32 (section 5.2.4), accepted as it comes: an INTEGER from -2147483648 to 4294967295

abbrev pub IsUInt32 : ℤ → Type 0
IsUInt32 z = IsTrue (is_within (negsuc 2147483647) (pos 4294967295) z)

abbrev pub UInt32 : ℤ → List ℕ → Type 0
UInt32 = Such (is_within (negsuc 2147483647) (pos 4294967295)) Int

unfoldable pub uint32_at : List ℕ → Result (ℤ × List ℕ) DerFault
uint32_at = such (is_within (negsuc 2147483647) (pos 4294967295)) BadInteger int_at

-- ---- Microseconds (section 5.2.4): an INTEGER from 0 to 999999

abbrev pub IsMicrosecond : ℕ → Type 0
IsMicrosecond n = n < 1000000

abbrev pub Microseconds : ℕ → List ℕ → Type 0
Microseconds = SeenAs unsigned_abs (Such (is_within (pos 0) (pos 999999)) Int)

unfoldable pub microseconds_at : List ℕ → Result (ℕ × List ℕ) DerFault
microseconds_at = seen_as unsigned_abs (such (is_within (pos 0) (pos 999999)) BadInteger int_at)

abbrev pub microseconds_text : ℕ → List ℕ
microseconds_text n = int_octets (pos n)

-- ---- a fixed number, such as a message's version

abbrev pub fixed_text : ℤ → Unit {0} → List ℕ
fixed_text n x = int_octets n

abbrev pub Fixed : ℤ → Unit {0} → List ℕ → Type 0
Fixed n = SeenAs (λ _. tt) (Such (is_within n n) Int)

unfoldable pub fixed_at : ℤ → List ℕ → Result (Unit {0} × List ℕ) DerFault
fixed_at n = seen_as (λ _. tt) (such (is_within n n) BadInteger int_at)

-- ---- a string of any bytes with this tag (section 5.2.1): 4 is that of an OCTET STRING, 27 of a KerberosString

abbrev pub ByteString : ℕ → List ℕ → List ℕ → Type 0
ByteString tag x bytes = (length x < 2 ^ 32) × (bytes ≡ tlv tag x)

-- its contents
abbrev pub as_they_are : List ℕ → List ℕ
as_they_are x = x

-- ---- KerberosFlags (section 5.2.8): the first 32 bits; missing ones are zero

abbrev pub first : ℕ × ℕ → ℕ
first bits = bits.0

abbrev pub KerberosFlags : ℕ → List ℕ → Type 0
KerberosFlags = SeenAs first Bits

unfoldable pub flags_at : List ℕ → Result (ℕ × List ℕ) DerFault
flags_at = seen_as first bits_at

abbrev pub flags_text : ℕ → List ℕ
flags_text bits = 0 ∷ to_be_bytes w32 bits
