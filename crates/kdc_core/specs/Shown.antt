-- The ticket that a request shows. Only a request that shows a client's ticket changes that client's replay cache.
use Rattle.std.specs.Prelude.{◌≡◌, ℕ, List, Some, Ok}
use Rattle.krb_fields.specs.Name.{Components}
use Rattle.krb_types.specs.KdcReq.{Received}
use Rattle.krb_types.specs.declared.kdc_req.Exchange.TheVariants.{Tgs}
use Rattle.replay.specs.declared.cache.ReplayCache.{ReplayCache}
use Rattle.replay.specs.declared.keep.Kept.{Kept}
use Rattle.tgs_opening.specs.Opening.{presented}
use Rattle.tgs_opening.specs.Shown.{IsShown}
use Rattle.tgs_opening.specs.declared.presented.Presented.{Presented}
use Rattle.kdc_state.specs.declared.state.State.{State}
use Rattle.kdc_core.specs.Request.{request_of}
use Rattle.kdc_core.specs.View.{ticket_view}

-- The bytes are a TGS-REQ with a ticket of this client. A key of a service decrypts the ticket, the ticket's session
-- key decrypts the authenticator, and the authenticator has the checksum of the request's body.
pub record ShowsTicket (state : State) (bytes : List ℕ) (client : Components) : Type 0 where
  pub message : Received
  pub request : request_of bytes ≡ Some (record { exchange = Tgs; message = message })
  pub found : Presented
  pub accepted : presented (ticket_view state message) message ≡ Ok found
  pub shown : IsShown (ticket_view state message) message found.ticket
  pub of_client : found.ticket.cname.components ≡ client

-- the same authenticators are recorded, with the same replies, and the same are too old
pub record IsSeenAlike (old new : ReplayCache Kept) : Type 0 where
  pub floor : new.floor ≡ old.floor
  pub pairs : new.pairs ≡ old.pairs
