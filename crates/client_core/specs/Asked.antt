-- What a client requests: the limits of a request.
use Rattle.std.specs.Prelude.{Bool, ◌&&◌, nat_le, IsTrue, length}
use Rattle.krb_fields.specs.NameLimits.{is_component, is_within_limits}
use Rattle.client_core.specs.declared.asked.Asked.{Asked}

-- a realm and names within the limits of a database, and at most 64 encryption types
abbrev pub is_askable : Asked → Bool
is_askable asked =
    is_component asked.realm
    && is_within_limits asked.client.components
    && is_within_limits asked.service.components
    && nat_le (length asked.etypes) 64

abbrev pub IsAskable : Asked → Type 0
IsAskable asked = IsTrue (is_askable asked)
