-- Which credentials of a cache can be used.
use Rattle.std.specs.Prelude.{ℤ, int_lt, Bool, not, ◌&&◌, if◌then◌else◌, ◌∷◌, Option, Some, None, find}
use Rattle.cred_files.specs.Cache.{CacheContents, is_usable}
use Rattle.cred_files.specs.declared.credential.Credential.{Credential}
use Rattle.krb_fields.specs.Granting.{tgs_name}
use Rattle.krb_fields.specs.Flags.{has_bit}
use Rattle.krb_fields.specs.Name.{Components}
use Rattle.krb_fields.specs.TicketFlag.{ticket_flag_number}
use Rattle.krb_fields.specs.declared.ticket_flag.TicketFlag.TheVariants.{Invalid}

-- it has not ended, and need not be validated first
abbrev pub is_good : ℤ → Credential → Bool
is_good now credential =
    int_lt now credential.times.end_time && not (has_bit credential.flags (ticket_flag_number Invalid))

abbrev pub if_good : ℤ → Option Credential → Option Credential
if_good now (Some credential) = if is_good now credential then Some credential else None
if_good now None = None

-- the first credential for a service of the client's realm whose key is of one of the four types, if it can be used
abbrev pub good_credential : ℤ → CacheContents → Components → Option Credential
good_credential now cache service = if_good now (find (is_usable (cache.principal.realm ∷ service)) cache.credentials)

-- the first credential for the ticket-granting service of the client's realm whose key is of one of the four types
abbrev pub granting_credential : CacheContents → Option Credential
granting_credential cache =
    find (is_usable (cache.principal.realm ∷ (tgs_name cache.principal.realm).components)) cache.credentials
