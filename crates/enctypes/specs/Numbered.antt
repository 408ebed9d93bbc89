-- The encryption type with a number.
use Rattle.std.specs.Prelude.{ℤ, List, [], ◌∷◌, Option, find}
use Rattle.std.specs.Ordering.{int_eq}
use Rattle.enctypes.specs.Etype.{number}
use Rattle.enctypes.specs.declared.etype.Etype.{Etype}
use Rattle.enctypes.specs.declared.etype.Etype.TheVariants.{Aes128CtsHmacSha1_96, Aes256CtsHmacSha1_96}
use Rattle.enctypes.specs.declared.etype.Etype.TheVariants.{Aes128CtsHmacSha256_128, Aes256CtsHmacSha384_192}

abbrev pub all_types : List Etype
all_types = Aes128CtsHmacSha1_96 ∷ Aes256CtsHmacSha1_96 ∷ Aes128CtsHmacSha256_128 ∷ Aes256CtsHmacSha384_192 ∷ []

-- the encryption type with this number
abbrev pub type_numbered : ℤ → Option Etype
type_numbered n = find (λ e. int_eq (number e) n) all_types
