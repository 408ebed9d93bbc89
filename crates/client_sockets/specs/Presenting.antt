-- What a client presents to a service: the ticket, and the moment in its authenticator.
use Rattle.std.specs.Prelude.{◌≡◌, true, ℕ, List, Option, Some, None}
use Rattle.cred_files.specs.declared.credential.Credential.{Credential}
use Rattle.client_core.specs.ServiceRequests.{asks_ap}
use Rattle.client_core.specs.Sessions.{session}
use Rattle.client_core.specs.declared.service_asked.ServiceAsked.{ServiceAsked}
use Rattle.client_core.specs.declared.sessions.Session.{Session}
use Rattle.client_files.specs.Clocks.{IsShown}
use Rattle.client_login.specs.Draws.{drawn_confounder}
use Rattle.client_sockets.specs.Clients.{ClientState, bytes_from}
use Rattle.client_sockets.specs.declared.presented.Presented.{Presented}
use Rattle.file_store.specs.World.{World}
use Rattle.krb_elements.specs.Codec.{written}
use Rattle.krb_types.specs.ApReq.{ap_req}

-- it has to reply; there is no checksum, no subkey and no sequence number
abbrev pub asked_of_service : ServiceAsked
asked_of_service = record { mutual_required = true; checksum = None; subkey = None; seq_number = None }

-- The AP-REQ presents this ticket at a moment of the client's clock, with the confounder that this call drew; the reply
-- is judged by the ticket's session key and that moment.
pub record IsPresentedAt {S : Type 0} (world : Option World) (client : ClientState S) (ticket : Credential)
    (made : Presented) : Type 0 where
  pub shown : IsShown world made.at
  pub held : Session
  pub has : session ticket ≡ Some held
  pub key : made.key ≡ held.key
  pub octets : made.ap_req.items ≡ written ap_req
      (asks_ap ticket.client held made.at asked_of_service (drawn_confounder (bytes_from client.generator)))
