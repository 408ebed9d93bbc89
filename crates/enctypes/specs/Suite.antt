-- The constants of an encryption type's implementation.
use Rattle.std.specs.Prelude.{◌≡◌, ℕ, ℤ, Bool, refl}
use Rattle.enctypes.specs.declared.etype.Etype as types
use Rattle.enctypes.specs.declared.hash.Hash as hashes
use Rattle.enctypes.specs.Etype as standard
use Rattle.enctypes.specs.Sealing as sealing

-- the constants are those of the standards
pub record AreConstants (etype : types.Etype) (hash : hashes.Hash) (number : ℤ) (key_size mac_key_size mac_size : ℕ)
    (macs_cipher : Bool)
    (checksum_type : ℤ) (default_count : ℕ) : Type 0 where
  pub hash_is : hash ≡ standard.hash etype
  pub number_is : number ≡ standard.number etype
  pub key_size_is : key_size ≡ standard.key_len etype
  pub mac_key_size_is : mac_key_size ≡ standard.mac_key_len etype
  pub mac_size_is : mac_size ≡ standard.mac_len etype
  pub macs_cipher_is : macs_cipher ≡ sealing.macs_cipher etype
  pub checksum_type_is : checksum_type ≡ standard.checksum_type etype
  pub default_count_is : default_count ≡ standard.default_count etype

-- the standards' own constants are
pub constants_of : (etype : types.Etype)
    → AreConstants etype (standard.hash etype) (standard.number etype) (standard.key_len etype)
    (standard.mac_key_len etype) (standard.mac_len etype) (sealing.macs_cipher etype) (standard.checksum_type etype)
    (standard.default_count etype)
constants_of etype = record {
  hash_is = refl;
  number_is = refl;
  key_size_is = refl;
  mac_key_size_is = refl;
  mac_size_is = refl;
  macs_cipher_is = refl;
  checksum_type_is = refl;
  default_count_is = refl;
}
