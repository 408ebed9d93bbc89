-- Accepting for one of the services of a keytab alone (RFC 4120, section 3.2.3).
use Rattle.std.specs.Prelude.{ℕ, Bool, false, not, if◌then◌else◌, List, [], Option, Some, None}
use Rattle.std.specs.Ordering.{eq_by_cmp}
use Rattle.cred_files.specs.declared.keytab_entry.KeytabEntry.{KeytabEntry}
use Rattle.krb_fields.specs.Name.{Components, name_cmp}
use Rattle.krb_fields.specs.declared.moment.Moment.{Moment}
use Rattle.krb_types.specs.ApReq.{ApReq}
use Rattle.ap_accept.specs.Accepts.{Answer, accepts, request_of}
use Rattle.ap_accept.specs.State.{with_keytab}
use Rattle.ap_accept.specs.declared.state.State.{State}

-- its ticket is for a service of another name
abbrev pub is_for_another : Components → Option ApReq → Bool
is_for_another service (Some ap) = not (eq_by_cmp name_cmp ap.ticket.sname.components service)
is_for_another service None = false

-- afterwards the acceptor has these keys
abbrev pub keyed : List KeytabEntry → Answer → Answer
keyed keytab answer = record answer { state = with_keytab answer.state keytab }

-- the answer of an acceptor without keys, which has its keys again afterwards
abbrev pub accepts_keyless : State → Moment → List ℕ → List ℕ → Answer
accepts_keyless state at confounder octets =
    keyed state.keytab (accepts (with_keytab state []) at confounder octets)

-- a ticket for another service is refused as one for a service that the keytab lacks
abbrev pub accepts_for : Components → State → Moment → List ℕ → List ℕ → Answer
accepts_for service state at confounder octets =
    if is_for_another service (request_of octets)
    then accepts_keyless state at confounder octets
    else accepts state at confounder octets
