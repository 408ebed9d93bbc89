-- The state of an acceptor: the clients of each service.
use Rattle.std.specs.Prelude.{⊤, List}
use Rattle.std.specs.Option.{unwrap_or}
use Rattle.std.specs.FinMap as map
use Rattle.krb_fields.specs.Name.{Components}
use Rattle.ap_accept.specs.declared.options.AcceptorOptions.{AcceptorOptions}
use Rattle.cred_files.specs.declared.keytab_entry.KeytabEntry.{KeytabEntry}
use Rattle.replay.specs.declared.cache.ReplayCache.{ReplayCache}
use Rattle.replay.specs.Opening.{opening_floor}
use Rattle.replay.specs.declared.opening.Opening.{Opening}
use Rattle.ap_accept.specs.Clients.{cache_in, opened_clients}
use Rattle.ap_accept.specs.declared.clients.Clients.{Clients}
use Rattle.ap_accept.specs.declared.state.State.{State}

abbrev pub opened : List KeytabEntry → AcceptorOptions → Opening → State
opened keytab options opening = record {
  keytab = keytab;
  options = options;
  floor = opening_floor opening;
  services = map.empty;
}

-- a service is known by its realm and the components of its name
abbrev pub clients_of : State → Components → Clients
clients_of state service = unwrap_or (map.get state.services service) (opened_clients state.floor)

abbrev pub cache_of : State → Components → Components → ReplayCache ⊤
cache_of state service client = cache_in (clients_of state service) client

-- the state with these clients stored for a service
abbrev pub with_clients : State → Components → Clients → State
with_clients state service clients = record state { services = map.insert state.services service clients }

-- the state with other keys, and the replay caches as they are
abbrev pub with_keytab : State → List KeytabEntry → State
with_keytab state keytab = record state { keytab = keytab }

-- the state with other keys and options, as in a later process that resumes
abbrev pub renewed : State → List KeytabEntry → AcceptorOptions → State
renewed state keytab options = record state { keytab = keytab; options = options }
