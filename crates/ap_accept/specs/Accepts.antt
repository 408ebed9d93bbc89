-- An acceptor's answer to the bytes of an AP-REQ, and its state afterwards (RFC 4120, section 3.2.3). The first row of
-- the table that holds refuses; if none holds, the request is accepted.
use Rattle.std.specs.Prelude.{◌≡◌, ℕ, ℤ, ⊤, Bool, if◌then◌else◌, List, Option, Some, None, Result, Ok, Err, option_map}
use Rattle.std.specs.Prelude.{option_and_then}
use Rattle.krb_types.specs.ApReq.{ApReq, ap_req}
use Rattle.krb_elements.specs.Format.{whole}
use Rattle.krb_fields.specs.Name.{Components}
use Rattle.krb_fields.specs.declared.code.Code.{Code}
use Rattle.krb_fields.specs.declared.moment.Moment.{Moment}
use Rattle.krb_types.specs.EncTicketPart.{EncTicketPart}
use Rattle.encrypted_data.specs.Parts.{ok_of}
use Rattle.replay.specs.ReplayCache.{recorded}
use Rattle.replay.specs.Stamp.{Stamp}
use Rattle.replay.specs.declared.cache.ReplayCache.{ReplayCache}
use Rattle.ticket_times.specs.declared.ticket_terms.TicketTerms.{TicketTerms}
use Rattle.ap_accept.specs.Clients.{drop_expired, with_cache}
use Rattle.ap_accept.specs.Contents.{contents, presented_in}
use Rattle.ap_accept.specs.Reply.{asks_reply, reply_if}
use Rattle.ap_accept.specs.Rules.{Row, first_row, rows}
use Rattle.ap_accept.specs.State.{clients_of, cache_of, with_clients}
use Rattle.ap_accept.specs.declared.accepted.Accepted.{Accepted}
use Rattle.ap_accept.specs.declared.clients.Clients.{Clients}
use Rattle.ap_accept.specs.declared.fault.ApFault.{ApFault}
use Rattle.ap_accept.specs.declared.fault.ApFault.TheVariants.{NotAnApReq, Refused, Memory as NoMemory}
use Rattle.ap_accept.specs.declared.presented.Presented.{Presented}
use Rattle.ap_accept.specs.declared.state.State.{State}
use Rattle.ap_req.specs.Refusal.{code_of}
use Rattle.ap_req.specs.declared.refusal.ApRefusal.{ApRefusal}

-- ---- what the table says about a request

-- the row that refuses it, if one does
abbrev pub refused_by : State → ℤ → ApReq → Option Row
refused_by state now ap = first_row (rows state.keytab now ap (contents state now ap))

-- the ticket and the authenticator, unless a row refuses before the authenticator is recorded
abbrev pub unless_before : Option Row → Option Presented → Option Presented
unless_before (Some row) p = if row.recorded then p else None
unless_before None p = p

abbrev pub recorded_of : State → ℤ → ApReq → Option Presented
recorded_of state now ap = unless_before (refused_by state now ap) (presented_in ap (contents state now ap))

-- ---- the state afterwards

-- the authenticator's time, by which the replay cache knows it
abbrev pub stamp_of : Presented → Stamp
stamp_of p = (p.authenticator.ctime, p.authenticator.cusec)

abbrev pub cache_for : State → Presented → ReplayCache ⊤
cache_for state p = cache_of state p.service.components p.ticket.cname.components

-- the service's clients, with the authenticator recorded
abbrev pub recording_clients : State → ℤ → Presented → Clients
recording_clients state now p =
    with_cache (clients_of state p.service.components) p.ticket.cname.components
    (recorded (cache_for state p) now (stamp_of p) tt)

-- the state with the authenticator recorded and old entries dropped
abbrev pub recording : State → ℤ → Presented → State
recording state now p = with_clients state p.service.components (drop_expired now (recording_clients state now p))

abbrev pub after_recording : State → ℤ → Option Presented → State
after_recording state now (Some p) = recording state now p
after_recording state now None = state

-- ---- the answer

abbrev pub terms_of : EncTicketPart → TicketTerms
terms_of ticket = record {
  flags = ticket.flags;
  authtime = ticket.authtime;
  starttime = ticket.starttime;
  endtime = ticket.endtime;
  renew_till = ticket.renew_till;
}

-- service, client, key, flags, times and authorization data are the ticket's; subkey, sequence number, checksum and
-- further authorization data the authenticator's
abbrev pub accepted_with : Option (List ℕ) → Presented → Accepted
accepted_with reply p = record {
  service = p.sname;
  client = record { realm = p.ticket.crealm; name = p.ticket.cname };
  session_key = p.session_key;
  ticket = terms_of p.ticket;
  ticket_authorization = p.ticket.authorization_data;
  subkey = p.subkey;
  seq_number = p.authenticator.seq_number;
  cksum = p.authenticator.cksum;
  authorization = p.authenticator.authorization_data;
  ap_rep = reply;
}

abbrev pub accepted : List ℕ → Bool → Presented → Accepted
accepted confounder wanted p = accepted_with (reply_if wanted p.session_key confounder p.authenticator) p

-- If no row refuses, the ticket and the authenticator are there (`is_presented` of `StageLaws`), so the last line
-- answers no request.
abbrev pub answer_by : List ℕ → Bool → Option ApRefusal → Option Presented → Result Accepted ApFault
answer_by confounder wanted (Some refusal) p = Err (Refused refusal)
answer_by confounder wanted None (Some p) = Ok (accepted confounder wanted p)
answer_by confounder wanted None None = Err NotAnApReq

-- ---- both

-- an answer, and the state afterwards
pub record Answer : Type 0 where
  pub answer : Result Accepted ApFault
  pub state : State

-- the answer and the state afterwards, given the refusal and what is recorded
abbrev pub answered : State → ℤ → List ℕ → Bool → Option ApRefusal → Option Presented → Answer
answered state now confounder wanted refusal p = record {
  answer = answer_by confounder wanted refusal p;
  state = after_recording state now p;
}

-- the AP-REQ that the bytes encode
abbrev pub request_of : List ℕ → Option ApReq
request_of octets = ok_of (whole ap_req.at octets)

abbrev pub if_request : State → ℤ → List ℕ → Option ApReq → Answer
if_request state now confounder (Some ap) =
    answered state now confounder (asks_reply ap) (option_map (λ row. row.refusal) (refused_by state now ap))
    (recorded_of state now ap)
if_request state now confounder None = record { answer = Err NotAnApReq; state = state }

-- `confounder` is the 16 random bytes of the AP-REP
abbrev pub accepts : State → Moment → List ℕ → List ℕ → Answer
accepts state at confounder octets = if_request state at.sec confounder (request_of octets)

-- ---- what a call returned

-- the result is the ruled one, unless memory ran out
abbrev pub IsAnswer : Result Accepted ApFault → Result Accepted ApFault → Type 0
IsAnswer (Ok accepted) ruled = ruled ≡ Ok accepted
IsAnswer (Err NotAnApReq) ruled = ruled ≡ Err NotAnApReq
IsAnswer (Err (Refused refusal)) ruled = ruled ≡ Err (Refused refusal)
IsAnswer (Err NoMemory) ruled = ⊤

-- the new state is the ruled one, or the old one if memory ran out
abbrev pub IsAfter : Result Accepted ApFault → State → State → State → Type 0
IsAfter (Err NoMemory) old new ruled = new ≡ old
IsAfter (Err NotAnApReq) old new ruled = new ≡ ruled
IsAfter (Err (Refused refusal)) old new ruled = new ≡ ruled
IsAfter (Ok accepted) old new ruled = new ≡ ruled

-- the code in the row that refuses the request, if one does
abbrev pub code_by : State → ℤ → List ℕ → Option Code
code_by state now octets =
    option_map (λ row. row.code) (option_and_then (refused_by state now) (request_of octets))

-- the code of a refusal, as `ApRefusal::code` returns it, is the one in that row
abbrev pub IsCoded : ApFault → Option Code → Type 0
IsCoded (Refused refusal) ruled = ruled ≡ Some (code_of refusal)
IsCoded NotAnApReq ruled = ⊤
IsCoded NoMemory ruled = ⊤

-- ---- whose request it is

-- the ticket and the authenticator, if the authenticator is recorded
abbrev pub recorded_by : State → ℤ → List ℕ → Option Presented
recorded_by state now octets = option_and_then (recorded_of state now) (request_of octets)

-- the service whose clients' caches may change
abbrev pub IsService : Components → Option Presented → Type 0
IsService service (Some p) = p.service.components ≡ service
IsService service None = ⊥

-- the service and the client whose cache may change
abbrev pub IsParty : Components → Components → Option Presented → Type 0
IsParty service client (Some p) = (p.service.components ≡ service) × (p.ticket.cname.components ≡ client)
IsParty service client None = ⊥
