-- What a request names, and the part of the state that its answer is made from.
use Rattle.std.specs.Prelude.{◌≡◌, ℕ, List, Option, Some, None, Result, Ok, Err, IfSome, option_map}
use Rattle.std.specs.FinMap as map
use Rattle.krb_fields.specs.PrincipalName.{Name}
use Rattle.krb_fields.specs.Name.{Components}
use Rattle.krb_types.specs.declared.kdc_req.Exchange.{Exchange}
use Rattle.krb_types.specs.declared.kdc_req.Exchange.TheVariants.{As, Tgs}
use Rattle.krb_types.specs.KdcReq.{Received}
use Rattle.principal_rows.specs.declared.limits.Limits.{Limits}
use Rattle.principal_rows.specs.declared.row.Row.{Row}
use Rattle.krb_fields.specs.Granting.{tgs_principal}
use Rattle.replay.specs.declared.keep.Kept.{Kept}
use Rattle.replay.specs.declared.cache.ReplayCache.{ReplayCache}
use Rattle.replay.specs.declared.opening.Opening.TheVariants.{First}
use Rattle.kdc_state.specs.declared.state.State.{State}
use Rattle.replay.specs.Opening.{opened_cache}
use Rattle.kdc_state.specs.State.{cache_of}
use Rattle.as_exchange.specs.View as as_exchange
use Rattle.tgs_exchange.specs.View as tgs_exchange
use Rattle.tgs_opening.specs.View as tgs_opening
use Rattle.tgs_opening.specs.Opening.{opened_ticket}
use Rattle.tgs_opening.specs.declared.opened.OpenedTicket.{OpenedTicket}
use Rattle.tgs_opening.specs.declared.presented.Presented.{Presented}
use Rattle.tgs_opening.specs.declared.refusal.TgsRefusal.{TgsRefusal}
use Rattle.kdc_core.specs.Request.{Request, request_of}

-- the client and the service that a request names, each perhaps absent
pub record Named : Type 0 where
  pub client : Option Components
  pub service : Option Components

abbrev pub components_of : Option Name → Option Components
components_of = option_map (λ name. name.components)

abbrev pub row_of : State → Option Components → Option Row
row_of state (Some name) = map.get state.database.rows name
row_of state None = None

-- the rows whose keys may decrypt the ticket in a request
abbrev pub ticket_view : State → Received → tgs_opening.TicketView
ticket_view state message = record {
  realm = state.database.realm;
  tgs = map.get state.database.rows (tgs_principal state.database.realm);
  service = row_of state (components_of message.body.value.sname);
}

-- the client in a decrypted ticket
abbrev pub ticket_client : Result OpenedTicket TgsRefusal → Option Components
ticket_client (Ok ticket) = Some ticket.part.cname.components
ticket_client (Err refusal) = None

-- AS-REQ: the body's client. TGS-REQ: the client of the presented ticket, if that can be decrypted
abbrev pub message_client : State → Exchange → Received → Option Components
message_client state As message = components_of message.body.value.cname
message_client state Tgs message = ticket_client (opened_ticket (ticket_view state message) message)

abbrev pub request_names : State → Request → Named
request_names state request = record {
  client = message_client state request.exchange request.message;
  service = components_of request.message.body.value.sname;
}

abbrev pub asked_names : State → Option Request → Named
asked_names state (Some request) = request_names state request
asked_names state None = record { client = None; service = None }

abbrev pub named : State → List ℕ → Named
named state bytes = asked_names state (request_of bytes)

-- realm and limits, the rows of the named client, of the named service and of the ticket-granting service, and the
-- named client's replay cache
pub record View : Type 0 where
  pub realm : List ℕ
  pub limits : Limits
  pub client : Option Row
  pub service : Option Row
  pub tgs : Option Row
  pub cache : ReplayCache Kept

-- if no client is named, the cache of a first opening; no answer depends on it
abbrev pub cache_named : State → Option Components → ReplayCache Kept
cache_named state (Some name) = cache_of state name
cache_named state None = opened_cache First

abbrev pub named_view : State → Named → View
named_view state names = record {
  realm = state.database.realm;
  limits = state.limits;
  client = row_of state names.client;
  service = row_of state names.service;
  tgs = map.get state.database.rows (tgs_principal state.database.realm);
  cache = cache_named state names.client;
}

-- the view of a request that was read
abbrev pub message_view : State → Exchange → Received → View
message_view state exchange message =
    named_view state (request_names state (record { exchange = exchange; message = message }))

-- the client of the presented ticket, and the requested service
abbrev pub names_presented : Received → Presented → Named
names_presented message p =
    record { client = Some p.ticket.cname.components; service = components_of message.body.value.sname }

abbrev pub presented_view : State → Received → Presented → View
presented_view state message p = named_view state (names_presented message p)

abbrev pub view : State → List ℕ → View
view state bytes = named_view state (named state bytes)

-- a second state with the same realm and limits agrees at what the bytes name in the first
pub record Agrees (state other : State) (bytes : List ℕ) : Type 0 where
  pub realm : other.database.realm ≡ state.database.realm
  pub limits : other.limits ≡ state.limits
  pub tgs : map.get other.database.rows (tgs_principal state.database.realm) ≡ map.get state.database.rows
      (tgs_principal state.database.realm)
  pub client : IfSome (named state bytes).client
      (λ c. (map.get other.database.rows c ≡ map.get state.database.rows c) × (cache_of other c ≡ cache_of state c))
  pub service : IfSome (named state bytes).service (λ s. map.get other.database.rows s ≡ map.get state.database.rows s)

-- the part that the AS exchange answers from
abbrev pub as_view : View → as_exchange.AsView
as_view v =
    record { realm = v.realm; limits = v.limits; client = v.client; service = v.service; failures = v.cache.failures }

-- the parts that the TGS exchange decrypts a ticket with, and answers from
abbrev pub opening_view : View → tgs_opening.TicketView
opening_view v = record { realm = v.realm; tgs = v.tgs; service = v.service }

abbrev pub tgs_view : View → tgs_exchange.TgsView
tgs_view v = record { realm = v.realm; limits = v.limits; client = v.client; service = v.service; cache = v.cache }
