-- Keys as contracts see them.
use Rattle.std.specs.Prelude.{◌≡◌, ◌<◌, ℕ, List, length, All}
use Rattle.enctypes.specs.declared.etype.Etype.{Etype}
use Rattle.enctypes.specs.Etype.{key_len}

-- a protocol key: its encryption type and its bytes (RFC 3961, section 3)
pub record ProtocolKey : Type 0 where
  pub etype : Etype
  pub bytes : List ℕ

-- the invariant of a key: its length is right for the encryption type
pub record IsKey (key : ProtocolKey) : Type 0 where
  pub size : length key.bytes ≡ key_len key.etype
  pub octets : All (λ b. b < 256) key.bytes
