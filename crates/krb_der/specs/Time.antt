-- KerberosTime (RFC 4120, section 5.2.3): a GeneralizedTime in UTC, without a fraction of a second.
use Rattle.std.specs.Prelude.{ℕ, ℤ, Bool, ◌&&◌, List}
use Rattle.krb_der.specs.Spelling.{Leaf, tlv}
use Rattle.krb_der.specs.Civil.{is_civil, civil_second, civil_at}
use Rattle.krb_der.specs.Digits.{is_spelled, spelled, spelling}

-- the bytes are YYYYMMDDHHMMSSZ, with a date of the calendar and a time of day
unfoldable pub is_time : List ℕ → Bool
is_time octets = is_spelled octets && is_civil (spelled octets)

-- the seconds of these bytes since 1970-01-01T00:00:00Z
unfoldable pub time_value : List ℕ → ℤ
time_value octets = civil_second (spelled octets)

-- the bytes of this second, in the years 0000 to 9999
unfoldable pub time_octets : ℤ → List ℕ
time_octets z = spelling (civil_at z)

-- the bytes encode the time
abbrev pub Time : ℤ → List ℕ → Type 0
Time = Leaf 24 is_time time_value

-- the encoding of the time
abbrev pub time_spelling : ℤ → List ℕ
time_spelling z = tlv 24 (time_octets z)
