-- Encrypted values in messages.
use Rattle.std.specs.Prelude.{ℕ, ℤ, List, Option}
use Rattle.enctypes.specs.declared.key.Key.{Key}
use Rattle.enctypes.specs.Etype.{number}
use Rattle.enctypes.specs.Sealing.{seal}
use Rattle.krb_elements.specs.Codec.{Codec, written}
use Rattle.krb_fields.specs.EncryptedData.{EncryptedData}
use Rattle.encrypted_data.specs.Parts.{opened_as}

-- EncryptedData (RFC 4120, section 5.2.9): the encoding of the value, encrypted with the key
abbrev pub encrypted : {A : Type 0} → Codec A → Key → ℕ → Option ℤ → List ℕ → A → EncryptedData
encrypted c key usage kvno confounder x = record {
  etype = number key.etype;
  kvno = kvno;
  cipher = seal key.etype key.bytes usage confounder (written c x);
}

-- the value that the key decrypts it to
abbrev pub decrypted : {A : Type 0} → Codec A → Key → ℕ → EncryptedData → Option A
decrypted c key usage sealed = opened_as c key.etype key.bytes usage sealed.cipher
