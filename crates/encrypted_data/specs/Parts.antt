-- Encrypted values in messages.
use Rattle.std.specs.Prelude.{ℕ, ◌≤◌, List, length, Option, Some, None, Result, Ok, Err}
use Rattle.krb_der.specs.declared.fault.DerFault.{DerFault}
use Rattle.krb_der.specs.Spelling.{IsBytes}
use Rattle.krb_elements.specs.Codec.{Codec}
use Rattle.krb_elements.specs.Format.{whole}
use Rattle.enctypes.specs.declared.etype.Etype.{Etype}
use Rattle.enctypes.specs.Sealing.{opened}

abbrev pub ok_of : {A : Type 0} → Result A DerFault → Option A
ok_of (Ok x) = Some x
ok_of (Err fault) = None

-- the value that the text encodes, if there is a text
abbrev pub read_as : {A : Type 0} → Codec A → Option (List ℕ) → Option A
read_as c None = None
read_as c (Some text) = ok_of (whole c.at text)

-- the value in the cipher, if the key decrypts it to the encoding of one
abbrev pub opened_as : {A : Type 0} → Codec A → Etype → List ℕ → ℕ → List ℕ → Option A
opened_as c etype key usage cipher = read_as c (opened etype key usage cipher)

-- the bytes that encode the value, no more than these
pub record IsSpelledWithin {A : Type 0} (c : Codec A) (x : A) (cipher : List ℕ) : Type 0 where
  pub octets : List ℕ
  pub are_bytes : IsBytes octets
  pub spelled : c.Spells x octets
  pub short : length octets ≤ length cipher
