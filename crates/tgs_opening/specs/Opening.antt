-- The ticket and the authenticator of a TGS-REQ, or the first rule that refuses it (RFC 4120, sections 3.2.3 and
-- 3.3.2).
use Rattle.std.specs.Prelude.{Some, None, Result, Ok, Err}
use Rattle.enctypes.specs.declared.key.Key.{Key}
use Rattle.enctypes.specs.declared.key_usage.KeyUsage.TheVariants.{TgsReqAuthenticator}
use Rattle.krb_types.specs.Authenticator.{Authenticator}
use Rattle.krb_types.specs.KdcReq.{Received}
use Rattle.rule_lists.specs.Stages.{◌>>=◌}
use Rattle.ap_req.specs.Authenticators.{authenticator_of, session_key_of}
use Rattle.ap_req.specs.declared.authenticated.Authenticated.{Authenticated}
use Rattle.tgs_opening.specs.Authenticators.{subkey_of}
use Rattle.tgs_opening.specs.Refusal.{by_ap}
use Rattle.tgs_opening.specs.Tickets.{ap_req_of, shown_ticket}
use Rattle.tgs_opening.specs.View.{TicketView}
use Rattle.tgs_opening.specs.declared.opened.OpenedTicket.{OpenedTicket}
use Rattle.tgs_opening.specs.declared.presented.Presented.{Presented}
use Rattle.tgs_opening.specs.declared.refusal.TgsRefusal.{TgsRefusal}
use Rattle.tgs_opening.specs.declared.rejection.OpeningRefusal.{OpeningRefusal}

-- the presented ticket, decrypted
abbrev pub opened_ticket : TicketView → Received → Result OpenedTicket TgsRefusal
opened_ticket v message = do
  ap ← ap_req_of message
  part ← shown_ticket v message.body.value ap
  Ok (record { ap = ap; part = part })

-- the authenticator with its subkey, if it is the ticket's and the request's
abbrev pub with_subkey : Received → OpenedTicket → Key → Authenticator → Result Authenticated TgsRefusal
with_subkey message o key auth = do
  subkey ← subkey_of o.part key message.body.octets auth
  Ok (record { session_key = key; authenticator = auth; subkey = subkey })

-- the proof that the sender has its session key
abbrev pub authenticated : TicketView → Received → OpenedTicket → Result Authenticated TgsRefusal
authenticated v message o = do
  key ← by_ap (session_key_of v.realm o.part)
  auth ← by_ap (authenticator_of TgsReqAuthenticator key o.ap.authenticator)
  with_subkey message o key auth

abbrev pub presented_as : OpenedTicket → Authenticated → Presented
presented_as o a = record {
  ticket_service = o.ap.ticket.sname;
  ticket = o.part;
  session_key = a.session_key;
  authenticator = a.authenticator;
  subkey = a.subkey;
}

-- a refusal after the ticket was decrypted names its client
abbrev pub by_authenticated : OpenedTicket → Result Authenticated TgsRefusal → Result Presented OpeningRefusal
by_authenticated o (Ok a) = Ok (presented_as o a)
by_authenticated o (Err rule) = Err (record { rule = rule; client = Some o.part.cname })

abbrev pub by_ticket : TicketView → Received → Result OpenedTicket TgsRefusal → Result Presented OpeningRefusal
by_ticket v message (Ok o) = by_authenticated o (authenticated v message o)
by_ticket v message (Err rule) = Err (record { rule = rule; client = None })

-- the request's ticket and authenticator, decrypted and checked
abbrev pub presented : TicketView → Received → Result Presented OpeningRefusal
presented v message = by_ticket v message (opened_ticket v message)
