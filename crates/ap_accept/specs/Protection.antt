-- The key that client and service share after an AP exchange (RFC 4120, section 5.5.1).
use Rattle.std.specs.Prelude.{Option}
use Rattle.std.specs.Option.{unwrap_or}
use Rattle.enctypes.specs.Key.{ProtocolKey}
use Rattle.ap_accept.specs.declared.accepted.Accepted.{Accepted}

-- the client's subkey, or the ticket's session key if it chose none
abbrev pub shared_key : Accepted → ProtocolKey
shared_key accepted = unwrap_or accepted.subkey accepted.session_key
