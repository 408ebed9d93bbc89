-- Reading a simple type undoes encoding it.
use Rattle.std.proofs.Common.{◌≡◌, ℕ, ℤ, pos, negsuc, ◌^◌, ◌<◌, List, [], ◌∷◌, refl, subst, arith, true, w64}
use Rattle.std.proofs.Common.{FitsSigned}
use Rattle.std.specs.Prelude.{unsigned_abs}
use Rattle.krb_der.specs.declared.fault.DerFault.TheVariants.{BadInteger, BadBits, BadTime}
use Rattle.krb_der.specs.StepLaws.{IsBytes-rest}
use Rattle.krb_der.specs.Spelling.{IsBytes}
use Rattle.krb_der.specs.Int.{is_int, int_value, Int}
use Rattle.krb_der.specs.Bits.{is_bits, bits_value, first_bits, Bits}
use Rattle.krb_der.specs.Reading.{tlv_at, int_at, bits_at, time_at}
use Rattle.krb_der.specs.Time.{is_time, time_value, Time}
use Rattle.std.proofs.lemmas.Int.{ints}
use Rattle.krb_elements.specs.Simple.{is_within, Int32, int32_at, UInt32, uint32_at, Microseconds, microseconds_at}
use Rattle.krb_elements.specs.Simple.{Fixed, fixed_at, ByteString, first}
use Rattle.krb_elements.specs.Simple.{KerberosFlags, flags_at}
use Rattle.krb_elements.specs.Laws.{IsElement, leaf_element, tlv_element, such_ok, seen_ok}

pub int_element : IsElement Int int_at
unfolding int_at
int_element = leaf_element 2 is_int int_value BadInteger

pub bits_element : IsElement Bits bits_at
unfolding bits_at
bits_element = leaf_element 3 is_bits bits_value BadBits

pub int32_ok : IsElement Int32 int32_at
unfolding int32_at
int32_ok = such_ok _ BadInteger _ _ int_element

pub uint32_ok : IsElement UInt32 uint32_at
unfolding uint32_at
uint32_ok = such_ok _ BadInteger _ _ int_element

pub microseconds_ok : IsElement Microseconds microseconds_at
unfolding microseconds_at
microseconds_ok = seen_ok unsigned_abs _ _ (such_ok _ BadInteger _ _ int_element)

pub fixed_ok : (n : ℤ) → IsElement (Fixed n) (fixed_at n)
unfolding fixed_at
fixed_ok n = seen_ok (λ _. tt) _ _ (such_ok _ BadInteger _ _ int_element)

pub byte_string_ok : (tag : ℕ) → IsElement (ByteString tag) (tlv_at tag)
byte_string_ok tag = tlv_element tag

pub flags_ok : IsElement KerberosFlags flags_at
unfolding flags_at
flags_ok = seen_ok first _ _ bits_element

pub time_element : IsElement Time time_at
unfolding time_at
time_element = leaf_element 24 is_time time_value BadTime

pub within_million : (z : ℤ) → is_within (pos 0) (pos 999999) z ≡ true → (FitsSigned w64 z) × (pos (unsigned_abs z) ≡ z)
within_million (pos n) e = (grind (arith, ints), refl)
within_million (negsuc n) e = absurd (grind (arith, ints))

-- the first 32 bits of bytes are a number below 2^32
first_bits_fit : (octets : List ℕ) → IsBytes octets → first_bits octets < 2 ^ 32
unfolding first_bits
first_bits_fit [] fits = omega arith
first_bits_fit (a ∷ []) fits = omega (arith, fits 0)
first_bits_fit (a ∷ b ∷ []) fits = omega (arith, fits 0, fits 1)
first_bits_fit (a ∷ b ∷ c ∷ []) fits = omega (arith, fits 0, fits 1, fits 2)
first_bits_fit (a ∷ b ∷ c ∷ d ∷ l) fits = omega (arith, fits 0, fits 1, fits 2, fits 3)

pub flags_fit : (contents : List ℕ) (bits : ℕ × ℕ) → IsBytes contents → bits_value contents ≡ bits → bits.0 < 2 ^ 32
unfolding bits_value
flags_fit [] bits fits e = subst (λ (b : ℕ × ℕ). b.0 < 2 ^ 32) e (omega arith)
flags_fit (unused ∷ octets) bits fits e =
    subst (λ (b : ℕ × ℕ). b.0 < 2 ^ 32) e (first_bits_fit octets (IsBytes-rest unused octets fits))
