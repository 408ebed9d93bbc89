-- Bytes in hexadecimal.
use Rattle.std.proofs.Common.{◌≡◌, ◌<◌, ℕ, List, [], ◌∷◌, length, Ok, arith}
use Rattle.hex.specs.Hex.{decode_of}
use Rattle.mit_dump.specs.Fields.{Field, IsHex}

pub some_hex : (field : Field) (octets : List ℕ) → decode_of field ≡ Ok octets → 0 < length octets → IsHex field octets
some_hex field [] is some = absurd (omega (arith, some))
some_hex field (octet ∷ octets) is some = is
