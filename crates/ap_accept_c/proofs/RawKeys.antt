-- A key that stands in front of other bytes is read as that key.
use Rattle.std.proofs.Common.{◌≡◌, ◌∙◌, ℕ, List, take, length, Option, Some, ap, subst}
use Rattle.std.specs.Prelude.{option_and_then}
use Rattle.enctypes.specs.Etype.{key_len, number}
use Rattle.enctypes.specs.Key.{ProtocolKey}
use Rattle.enctypes.specs.NumberedLaws.{own_number}
use Rattle.enctypes.specs.declared.etype.Etype.{Etype}
use Rattle.encrypted_data.specs.KeyLaws.{key_again}
use Rattle.encrypted_data.specs.Keys.{key_of}
use Rattle.ap_accept_c.specs.Protection.{key_in}

pub key_back : (key : ProtocolKey) (all : List ℕ) → length key.bytes ≡ key_len key.etype → take (length key.bytes) all ≡ key.bytes
    → key_in (number key.etype) all ≡ Some key
key_back key all size begins =
    ap (λ (o : Option Etype). option_and_then (λ e. key_of (number key.etype) (take (key_len e) all)) o) (own_number key.etype)
    ∙ ap (key_of (number key.etype)) (subst (λ (n : ℕ). take n all ≡ key.bytes) size begins)
    ∙ key_again key size
