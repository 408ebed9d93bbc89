-- Encryption types, and the texts that spell their numbers.
use Rattle.std.specs.Prelude.{◌≡◌, ℕ, pos, List, [], ◌∷◌}
use Rattle.std.specs.Str.Parse.{IsNumeral, digits_value}
use Rattle.enctypes.specs.declared.etype.Etype.{Etype}
use Rattle.enctypes.specs.declared.etype.Etype.TheVariants.{Aes128CtsHmacSha1_96, Aes256CtsHmacSha1_96}
use Rattle.enctypes.specs.declared.etype.Etype.TheVariants.{Aes128CtsHmacSha256_128, Aes256CtsHmacSha384_192}
use Rattle.enctypes.specs.Etype.{number}

-- the number of an encryption type, with leading zeros allowed
abbrev pub IsEtypeText : Etype → List ℕ → Type 0
IsEtypeText etype text = IsNumeral 10 text × (number etype ≡ pos (digits_value 10 text))

-- the default encryption types, the preferred one first
abbrev pub offered : List Etype
offered = Aes256CtsHmacSha1_96 ∷ Aes128CtsHmacSha1_96 ∷ Aes256CtsHmacSha384_192 ∷ Aes128CtsHmacSha256_128 ∷ []
