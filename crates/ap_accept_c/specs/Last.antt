-- The result of the last AP-REQ.
use Rattle.std.specs.Prelude.{ℕ, List, [], Option, Some, None, Result, Ok, Err, option_map}
use Rattle.std.specs.Result.{result_ok}
use Rattle.krb_fields.specs.declared.moment.Moment.{Moment}
use Rattle.ap_req.specs.Refusal.{word_of}
use Rattle.ap_accept.specs.Accepts.{request_of}
use Rattle.ap_accept.specs.Checksum.{checksum_verdict}
use Rattle.ap_accept.specs.Label.{error_bytes, label_of}
use Rattle.ap_accept.specs.declared.accepted.Accepted.{Accepted}
use Rattle.ap_accept.specs.declared.fault.ApFault.{ApFault}
use Rattle.ap_accept.specs.declared.fault.ApFault.TheVariants as faults
use Rattle.ap_accept.specs.declared.label.TicketLabel.{TicketLabel}
use Rattle.ap_accept_c.specs.Status.{status_of_checksum}
use Rattle.ap_accept_c.specs.declared.last.Last.{Last}
use Rattle.ap_accept_c.specs.declared.last.Refusal.{Refusal}
use Rattle.ap_accept_c.specs.declared.status.Status.{Status}
use Rattle.ap_accept_c.specs.declared.status.Status.TheVariants.{Absent}

-- before the first
abbrev pub nothing : Last
nothing = record { accepted = None; label = None; refusal = None }

-- the rule that refuses, and the moment
abbrev pub refusal_in : Moment → Result Accepted ApFault → Option Refusal
refusal_in at (Ok accepted) = None
refusal_in at (Err faults.NotAnApReq) = None
refusal_in at (Err (faults.Refused rule)) = Some (record { rule = rule; at = at })
refusal_in at (Err faults.Memory) = None

-- after an AP-REQ of these bytes, which came in at this moment and has this answer
abbrev pub last_of : Moment → List ℕ → Result Accepted ApFault → Last
last_of at octets answer = record {
  accepted = result_ok answer;
  label = option_map label_of (request_of octets);
  refusal = refusal_in at answer;
}

-- the name of the rule
abbrev pub word_in : Option Refusal → List ℕ
word_in (Some refusal) = word_of refusal.rule
word_in None = []

-- the bytes of the KRB-ERROR
abbrev pub error_in : Option TicketLabel → Option Refusal → Option (List ℕ)
error_in (Some label) (Some refusal) = error_bytes label refusal.at refusal.rule
error_in (Some label) None = None
error_in None refusal = None

-- the status for the authenticator's checksum over these bytes
abbrev pub check_of : Option Accepted → List ℕ → Status
check_of (Some accepted) octets = status_of_checksum (checksum_verdict accepted.session_key accepted.cksum octets)
check_of None octets = Absent
