-- The decision about an AS-REQ. The reply, its encoding, the client's failures afterwards and the issued ticket all
-- follow from it.
use Rattle.std.specs.Prelude.{ℤ, ⊤, Result, Ok, Err}
use Rattle.krb_types.specs.KdcReq.{Received}
use Rattle.preauth.specs.declared.timestamp.Outcome.{Outcome}
use Rattle.as_exchange.specs.View.{AsView}
use Rattle.as_exchange.specs.Rules.{timestamp_of, admitted}
use Rattle.as_exchange.specs.declared.decision.Decision.{Decision}
use Rattle.as_exchange.specs.declared.decision.Decision.TheVariants.{Refuses, Issues}
use Rattle.as_exchange.specs.declared.refusal.AsRefusal.{AsRefusal}
use Rattle.as_exchange.specs.declared.terms.Admission.{Admission}

-- a refusal keeps the outcome of the timestamp, because the client's failures may depend on it
abbrev pub by_admission : Outcome → Result Admission AsRefusal → Decision
by_admission timestamp (Err refusal) = Refuses refusal timestamp
by_admission timestamp (Ok admission) = Issues admission

abbrev pub by_timestamp : AsView → ℤ → Received → Outcome → Decision
by_timestamp v now message timestamp = by_admission timestamp (admitted v now message timestamp)

-- by the rules, in the order of their list
abbrev pub decision : AsView → ℤ → Received → Decision
decision v now message = by_timestamp v now message (timestamp_of v.client now message)

-- P holds of the admission if a ticket is issued
abbrev pub IfIssued : Decision → (Admission → Type 0) → Type 0
IfIssued (Refuses refusal timestamp) P = ⊤
IfIssued (Issues admission) P = P admission
