-- The fields of a short byte string in an array.
use Rattle.std.specs.Prelude.{◌≡◌, ℕ, ◌-◌, List, ◌++◌, take, length, replicate}

-- the bytes, followed by zeros up to n
abbrev pub padded : ℕ → List ℕ → List ℕ
padded n octets = octets ++ replicate (n - length octets) 0

-- the first len bytes are followed by zeros up to n
pub record FillsFront (n len : ℕ) (octets : List ℕ) : Type 0 where
  pub size : length (take len octets) ≡ len
  pub rest : padded n (take len octets) ≡ octets
