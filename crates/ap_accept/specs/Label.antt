-- What an AP-REQ says in clear of its ticket, and the KRB-ERROR for a refusal, which names the ticket's service.
use Rattle.std.specs.Prelude.{◌≡◌, ℕ, ⊤, Bool, ◌&&◌, if◌then◌else◌, List, Option, Some, None}
use Rattle.krb_elements.specs.Codec.{written}
use Rattle.krb_fields.specs.Code.{number_of}
use Rattle.krb_fields.specs.NameLimits.{is_component, is_within_limits}
use Rattle.krb_fields.specs.declared.moment.Moment.{Moment}
use Rattle.krb_types.specs.ApReq.{ApReq}
use Rattle.krb_types.specs.KrbError.{KrbError, krb_error}
use Rattle.ap_req.specs.Refusal.{code_of}
use Rattle.ap_req.specs.declared.refusal.ApRefusal.{ApRefusal}
use Rattle.ap_accept.specs.declared.fault.ApFault.{ApFault}
use Rattle.ap_accept.specs.declared.fault.ApFault.TheVariants.{NotAnApReq, Refused, Memory}
use Rattle.ap_accept.specs.declared.label.TicketLabel.{TicketLabel}

abbrev pub label_of : ApReq → TicketLabel
label_of ap = record {
  service = record { realm = ap.ticket.realm; name = ap.ticket.sname };
  etype = ap.ticket.enc_part.etype;
  kvno = ap.ticket.enc_part.kvno;
}

-- the bytes encode no AP-REQ, or memory ran out
abbrev pub IsUnlabeled : ApFault → Option ApReq → Type 0
IsUnlabeled NotAnApReq request = request ≡ None
IsUnlabeled (Refused refusal) request = ⊥
IsUnlabeled Memory request = ⊤

-- ---- KRB-ERROR (RFC 4120, section 5.9.1)

-- the moment, the rule's code and the ticket's service
abbrev pub error_of : TicketLabel → Moment → ApRefusal → KrbError
error_of label at refusal = record {
  ctime = None;
  cusec = None;
  stime = at.sec;
  susec = at.usec;
  error_code = number_of (code_of refusal);
  crealm = None;
  cname = None;
  realm = label.service.realm;
  sname = label.service.name;
  e_text = None;
  e_data = None;
}

-- the service may be a principal: its realm and the components of its name are within their limits
abbrev pub is_nameable : TicketLabel → Bool
is_nameable label = is_component label.service.realm && is_within_limits label.service.name.components

-- the error's bytes, for a service that may be a principal
abbrev pub error_bytes : TicketLabel → Moment → ApRefusal → Option (List ℕ)
error_bytes label at refusal = if is_nameable label then Some (written krb_error (error_of label at refusal)) else None
