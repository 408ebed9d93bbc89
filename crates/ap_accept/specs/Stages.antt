-- The stages in which the code decides on an AP-REQ, by the rules of `ap_req`. They decide as the table does
-- (`accepts_staged` of `StageLaws`).
use Rattle.std.specs.Prelude.{ℕ, ℤ, ⊤, Bool, List, Option, Some, None, Result, Ok, Err}
use Rattle.rule_lists.specs.Refusals.{first_holding}
use Rattle.krb_types.specs.ApReq.{ApReq}
use Rattle.krb_fields.specs.declared.moment.Moment.{Moment}
use Rattle.replay.specs.ReplayCache.{verdict}
use Rattle.replay.specs.declared.verdict.Verdict.{Verdict}
use Rattle.replay.specs.declared.verdict.Verdict.TheVariants as verdicts
use Rattle.ap_req.specs.Validity.{ticket_terms}
use Rattle.ap_req.specs.declared.refusal.ApRefusal.{ApRefusal}
use Rattle.ap_req.specs.declared.refusal.ApRefusal.TheVariants.{Skewed, Repeated, Full}
use Rattle.ap_accept.specs.Accepts.{Answer, accepted_with, answered, cache_for, request_of, stamp_of}
use Rattle.ap_accept.specs.Presented.{presented}
use Rattle.ap_accept.specs.Reply.{asks_reply}
use Rattle.ap_accept.specs.Validity.{validity_rules}
use Rattle.ap_accept.specs.declared.accepted.Accepted.{Accepted}
use Rattle.ap_accept.specs.declared.fault.ApFault.{ApFault}
use Rattle.ap_accept.specs.declared.fault.ApFault.TheVariants.{NotAnApReq, Refused}
use Rattle.ap_accept.specs.declared.presented.Presented.{Presented}
use Rattle.ap_accept.specs.declared.state.State.{State}

-- a refusal that changes nothing
abbrev pub refused : State → ApRefusal → Answer
refused state refusal = record { answer = Err (Refused refusal); state = state }

-- an accepted request, or the reason why it isn't
abbrev pub accepted_if : Presented → Result (Option (List ℕ)) ApFault → Result Accepted ApFault
accepted_if p (Ok reply) = Ok (accepted_with reply p)
accepted_if p (Err fault) = Err fault

-- ---- the replay cache

abbrev pub refusal_by : Verdict ⊤ → Option ApRefusal
refusal_by verdicts.Fresh = None
refusal_by verdicts.Skew = Some Skewed
refusal_by (verdicts.Repeat kept) = Some Repeated
refusal_by verdicts.Full = Some Full

abbrev pub cache_refusal : State → ℤ → Presented → Option ApRefusal
cache_refusal state now p = refusal_by (verdict (cache_for state p) now (stamp_of p) state.options.remembered)

-- ---- the stages

-- once the authenticator is recorded, only the ticket's validity decides
abbrev pub unless_seen : State → ℤ → List ℕ → Bool → Presented → Option ApRefusal → Answer
unless_seen state now confounder wanted p (Some refusal) = refused state refusal
unless_seen state now confounder wanted p None =
    answered state now confounder wanted (first_holding (validity_rules (ticket_terms p.ticket) now)) (Some p)

abbrev pub if_presented : State → ℤ → List ℕ → Bool → Result Presented ApRefusal → Answer
if_presented state now confounder wanted (Ok p) =
    unless_seen state now confounder wanted p (cache_refusal state now p)
if_presented state now confounder wanted (Err refusal) = refused state refusal

abbrev pub staged_if : State → ℤ → List ℕ → Option ApReq → Answer
staged_if state now confounder (Some ap) =
    if_presented state now confounder (asks_reply ap) (presented state.keytab ap)
staged_if state now confounder None = record { answer = Err NotAnApReq; state = state }

abbrev pub staged : State → Moment → List ℕ → List ℕ → Answer
staged state at confounder octets = staged_if state at.sec confounder (request_of octets)

-- what is recorded
abbrev pub seen_by : Presented → Option ApRefusal → Option Presented
seen_by p (Some refusal) = None
seen_by p None = Some p

abbrev pub seen_if : State → ℤ → Result Presented ApRefusal → Option Presented
seen_if state now (Ok p) = seen_by p (cache_refusal state now p)
seen_if state now (Err refusal) = None
