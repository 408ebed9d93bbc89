-- What is presented is the ticket of the credential, under its session key.
use Rattle.std.proofs.Common.{◌≡◌, ◌∙◌, ◌&&◌, Bool, true, false, ℕ, List, Option, Some, None, is_some, refl, ap, sym, subst}
use Rattle.std.specs.Prelude.{IfSome, length, nat_le}
use Rattle.krb_fields.specs.NameLimits.{is_component, is_within_limits}
use Rattle.krb_fields.specs.declared.moment.Moment.{Moment}
use Rattle.cred_files.specs.declared.credential.Credential.{Credential}
use Rattle.client_core.specs.ServiceRequests.{asks_ap}
use Rattle.client_core.specs.Sessions.{is_presentable, session, session_by, session_key, ticket_in}
use Rattle.client_core.specs.declared.sessions.Session.{Session}
use Rattle.client_files.specs.Clocks.{IsShown}
use Rattle.client_login.specs.Draws.{drawn_confounder}
use Rattle.client_sockets.specs.Clients.{ClientState, bytes_from}
use Rattle.client_sockets.specs.Presenting.{IsPresentedAt, asked_of_service}
use Rattle.client_sockets.specs.declared.presented.Presented.{Presented}
use Rattle.enctypes.specs.declared.key.Key.{Key}
use Rattle.file_store.specs.World.{World}
use Rattle.krb_elements.specs.Codec.{written}
use Rattle.krb_types.specs.ApReq.{ap_req}
use Rattle.krb_types.specs.Ticket.{Ticket}

second : (a b c d e : Bool) → a && b && c && d && e ≡ true → b ≡ true
second true true c d e is = refl
second true false c d e is = absurd (let k : false ≡ true = is in cc)
second false b c d e is = absurd (let k : false ≡ true = is in cc)

module _ {S : Type 0} (world : Option World) (client : ClientState S) (ticket : Credential) (made : Presented) where
  -- the AP-REQ is that of this session
  abbrev IsSentIn : Session → Type 0
  IsSentIn held = made.ap_req.items ≡ written ap_req
      (asks_ap ticket.client held made.at asked_of_service (drawn_confounder (bytes_from client.generator)))

  by_ticket : (found : Option Ticket) (key : Key) → ticket_in ticket.ticket ≡ found → is_some found ≡ true
      → session_key ticket ≡ Some key → IsShown world made.at → made.key ≡ key → IfSome (session ticket) IsSentIn
      → IsPresentedAt world client ticket made
  by_ticket (Some t) key read is has shown same sent =
      let held : Session = record { ticket = t; key = key } in
      let found : session ticket ≡ Some held =
      ap (λ (o : Option Ticket). session_by o (session_key ticket)) read ∙ ap (λ (o : Option Key). session_by (Some t) o) has in
      record {
        shown = shown;
        held = held;
        has = found;
        key = same;
        octets = subst (λ (o : Option Session). IfSome o IsSentIn) found sent;
      }
  by_ticket None key read is has shown same sent = absurd (let k : false ≡ true = is in cc)

module _ {S : Type 0} (world : S → Option World) (state client : ClientState S) (view : state ≡ client)
    (ticket : Credential) (made : Presented) (key : Key) (at : Moment) (confounder : List ℕ) where
  pub presented_at : session_key ticket ≡ Some key → is_presentable ticket ≡ true → IsShown (world state.store) at
      → made.key ≡ key → made.at ≡ at → confounder ≡ drawn_confounder (bytes_from state.generator)
      → IfSome (session ticket) (λ held. made.ap_req.items ≡ written ap_req (asks_ap ticket.client held at asked_of_service confounder))
      → IsPresentedAt (world client.store) client ticket made
  presented_at has may shown same then drawn sent =
      let shown : IsShown (world state.store) made.at = subst (λ (m : Moment). IsShown (world state.store) m) (sym then) shown in
      let sent : IfSome (session ticket) (IsSentIn (world state.store) state ticket made) =
      subst (λ (n : List ℕ). IfSome (session ticket) (λ held. made.ap_req.items ≡ written ap_req (asks_ap ticket.client held made.at asked_of_service n))) drawn
      (subst (λ (m : Moment). IfSome (session ticket) (λ held. made.ap_req.items ≡ written ap_req (asks_ap ticket.client held m asked_of_service confounder))) (sym then) sent) in
      subst (λ (c : ClientState S). IsPresentedAt (world c.store) c ticket made) view
      (by_ticket (world state.store) state ticket made (ticket_in ticket.ticket) key refl
      (second (is_some (session_key ticket)) (is_some (ticket_in ticket.ticket)) (is_component ticket.client.realm)
      (is_within_limits ticket.client.name.components) (nat_le (length ticket.ticket) 16777216) may)
      has shown same sent)
