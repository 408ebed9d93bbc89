-- Reading from left to right, up to the first error.
use Rattle.std.specs.Prelude.{◌≡◌, ℕ, ℤ, Bool, List, [], ◌∷◌, length, take, drop, Result, Ok, Err, nat_lt, ◌==◌}
use Rattle.std.specs.Prelude.{if◌then◌else◌}
use Rattle.std.specs.Int.{w32, from_be_bytes}
use Rattle.krb_der.specs.Int.{is_int, int_value}
use Rattle.krb_der.specs.Bits.{is_bits, bits_value}
use Rattle.krb_der.specs.Time.{is_time, time_value}
use Rattle.krb_der.specs.declared.fault.DerFault.{DerFault}
use Rattle.krb_der.specs.declared.fault.DerFault.TheVariants.{Truncated, BadTag, BadLength, BadInteger, BadBits}
use Rattle.krb_der.specs.declared.fault.DerFault.TheVariants.{BadTime}

infixl 10 ◌>>=◌
abbrev pub ◌>>=◌ : {A B : Type 0} → Result A DerFault → (A → Result B DerFault) → Result B DerFault
(Ok x) >>= f = f x
(Err e) >>= f = Err e

-- The function returned what reading gives; `view` maps its result to what the definition reads.
abbrev pub Gives : {X Y : Type 0} → (X → Y) → Result X DerFault → Result Y DerFault → Type 0
Gives view (Ok x) read = read ≡ Ok (view x)
Gives view (Err e) read = read ≡ Err e

-- The value was read and the rest is left; or there was an error, and nothing was read.
abbrev pub Reads : {X Y : Type 0} → (X → Y) → Result X DerFault → List ℕ → List ℕ → Result (Y × List ℕ) DerFault
    → Type 0
Reads view (Ok x) old new read = read ≡ Ok (view x, new)
Reads view (Err e) old new read = (read ≡ Err e) × (new ≡ old)

-- a length of k bytes; the first is not 0, and a single byte is not below 128
abbrev pub length_1 : List ℕ → Result (ℕ × List ℕ) DerFault
length_1 (a ∷ rest) = if nat_lt a 128 then Err BadLength else Ok (a, rest)
length_1 _ = Err Truncated

abbrev pub length_2 : List ℕ → Result (ℕ × List ℕ) DerFault
length_2 (a ∷ b ∷ rest) = if a == 0 then Err BadLength else Ok (from_be_bytes w32 (0 ∷ 0 ∷ a ∷ b ∷ []), rest)
length_2 _ = Err Truncated

abbrev pub length_3 : List ℕ → Result (ℕ × List ℕ) DerFault
length_3 (a ∷ b ∷ c ∷ rest) = if a == 0 then Err BadLength else Ok (from_be_bytes w32 (0 ∷ a ∷ b ∷ c ∷ []), rest)
length_3 _ = Err Truncated

abbrev pub length_4 : List ℕ → Result (ℕ × List ℕ) DerFault
length_4 (a ∷ b ∷ c ∷ d ∷ rest) = if a == 0 then Err BadLength else Ok (from_be_bytes w32 (a ∷ b ∷ c ∷ d ∷ []), rest)
length_4 _ = Err Truncated

unfoldable pub length_at : List ℕ → Result (ℕ × List ℕ) DerFault
length_at [] = Err Truncated
length_at (first ∷ rest) =
    if nat_lt first 128 then Ok (first, rest)
    else if first == 129 then length_1 rest
    else if first == 130 then length_2 rest
    else if first == 131 then length_3 rest
    else if first == 132 then length_4 rest
    else Err BadLength

-- the contents of the value with this tag at the front, and what follows it
unfoldable pub tlv_at : ℕ → List ℕ → Result (List ℕ × List ℕ) DerFault
tlv_at tag [] = Err Truncated
tlv_at tag (first ∷ rest) =
    if first == tag
    then (length_at rest >>= λ n. if nat_lt (length n.1) n.0 then Err Truncated else Ok (take n.0 n.1, drop n.0 n.1))
    else Err BadTag

-- a value of a simple type, whose contents pass a test
abbrev pub leaf_at : {A : Type 0} → ℕ → (List ℕ → Bool) → (List ℕ → A) → DerFault → List ℕ
    → Result (A × List ℕ) DerFault
leaf_at tag test value fault bytes = tlv_at tag bytes >>= λ c. if test c.0 then Ok (value c.0, c.1) else Err fault

unfoldable pub int_at : List ℕ → Result (ℤ × List ℕ) DerFault
int_at = leaf_at 2 is_int int_value BadInteger

unfoldable pub bits_at : List ℕ → Result ((ℕ × ℕ) × List ℕ) DerFault
bits_at = leaf_at 3 is_bits bits_value BadBits

unfoldable pub time_at : List ℕ → Result (ℤ × List ℕ) DerFault
time_at = leaf_at 24 is_time time_value BadTime
