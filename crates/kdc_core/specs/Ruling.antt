-- What a TGS-REQ gets by the one list of its rules.
use Rattle.std.specs.Prelude.{◌≡◌, ℤ, ⊤, true, is_some, Option, Some, None}
use Rattle.kdc_replies.specs.Incoming.{Incoming}
use Rattle.kdc_replies.specs.Issue.{Issue}
use Rattle.krb_types.specs.KdcReq.{Received}
use Rattle.krb_types.specs.declared.kdc_req.Exchange.{Exchange}
use Rattle.krb_types.specs.declared.kdc_req.Exchange.TheVariants.{As as OfAs, Tgs as OfTgs}
use Rattle.replay.specs.declared.keep.Kept.{Kept}
use Rattle.tgs_exchange.specs.Answer.{repeated}
use Rattle.tgs_exchange.specs.Refusals.{ruling}
use Rattle.tgs_exchange.specs.declared.decision.Decision.{Decision}
use Rattle.tgs_exchange.specs.declared.decision.Decision.TheVariants.{Refuses, Records, Repeats, Issues}
use Rattle.tgs_exchange.specs.declared.outcome.TgsOutcome.TheVariants.{Refused, Issued, Resent, TooBig}
use Rattle.tgs_opening.specs.declared.refusal.TgsRefusal.{TgsRefusal}
use Rattle.kdc_core.specs.Audit.{AuditRecord}
use Rattle.kdc_core.specs.Answer.{Answer, refused}
use Rattle.kdc_core.specs.Request.{Request}
use Rattle.kdc_core.specs.View.{View, opening_view, tgs_view}
use Rattle.kdc_core.specs.declared.audit.AuditRecord.TheVariants.{NoRequest, As, Tgs}

-- the first rule of `refusals` (specs/Refusals.antt of tgs_exchange) that holds
abbrev pub tgs_ruling : View → ℤ → Received → Option (Decision Kept)
tgs_ruling v now message = ruling (opening_view v) (tgs_view v) now message

-- the audit record names this rule
abbrev pub IsRefusedBy : TgsRefusal → AuditRecord → Type 0
IsRefusedBy rule NoRequest = ⊥
IsRefusedBy rule (As client service outcome) = ⊥
IsRefusedBy rule (Tgs client service (Refused other)) = other ≡ rule
IsRefusedBy rule (Tgs client service (Issued granted)) = ⊥
IsRefusedBy rule (Tgs client service (Resent bears)) = ⊥
IsRefusedBy rule (Tgs client service TooBig) = ⊥

-- A rule that refuses sends its error, and the audit record names it; what is stored with the authenticator depends on
-- where the rule stands. A repeated authenticator gets what was stored for it. If no rule holds, a ticket is issued.
abbrev pub Follows : View → Incoming → Received → Option (Decision Kept) → Answer → AuditRecord → Option Issue → Type 0
Follows v q message (Some (Refuses rule)) a audit issue = (a ≡ refused v q.at message rule) × IsRefusedBy rule audit
Follows v q message (Some (Records rule)) a audit issue =
    (a.reply ≡ (refused v q.at message rule).reply) × (is_some a.kept ≡ true) × IsRefusedBy rule audit
Follows v q message (Some (Repeats kept)) a audit issue =
    (a.reply ≡ Some (repeated (tgs_view v) q message.body.value kept).reply) × (a.kept ≡ None)
Follows v q message (Some (Issues admission)) a audit issue = ⊥
Follows v q message None a audit issue = is_some issue ≡ true

abbrev pub if_tgs : Exchange → Type 0 → Type 0
if_tgs OfAs P = ⊤
if_tgs OfTgs P = P

-- P holds of the request if it is a TGS-REQ
abbrev pub IfTgsReq : Option Request → (Received → Type 0) → Type 0
IfTgsReq (Some request) P = if_tgs request.exchange (P request.message)
IfTgsReq None P = ⊤

-- the answer to a TGS-REQ, its audit record and the ticket that is issued for it follow the rules
abbrev pub IsRuled : View → Incoming → Answer → AuditRecord → Option Issue → Option Request → Type 0
IsRuled v q a audit issue request =
    IfTgsReq request (λ message. Follows v q message (tgs_ruling v q.at.sec message) a audit issue)
