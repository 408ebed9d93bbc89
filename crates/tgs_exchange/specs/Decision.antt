-- The decision on a TGS-REQ whose ticket and authenticator were decrypted. Its reply, the reply's encoding, what is
-- stored, and the ticket that is issued follow from it.
use Rattle.std.specs.Borrow.{Bor}
use Rattle.std.specs.Prelude.{ℤ, ⊤, Option, Some, None, Result, Ok, Err}
use Rattle.rule_lists.specs.Refusals.{first_holding}
use Rattle.krb_types.specs.ReqBody.{ReqBody}
use Rattle.replay.specs.ReplayCache.{verdict}
use Rattle.replay.specs.Stamp.{Stamp}
use Rattle.replay.specs.declared.keep.Kept.{Kept}
use Rattle.replay.specs.declared.verdict.Verdict.{Verdict}
use Rattle.replay.specs.declared.verdict.Verdict.TheVariants.{Fresh, Skew, Repeat, Full as NoPlace}
use Rattle.tgs_opening.specs.declared.presented.Presented.{Presented}
use Rattle.tgs_opening.specs.declared.refusal.TgsRefusal.{TgsRefusal}
use Rattle.ap_req.specs.declared.refusal.ApRefusal.TheVariants.{Skewed, Full}
use Rattle.tgs_opening.specs.declared.refusal.TgsRefusal.TheVariants.{Ap}
use Rattle.tgs_exchange.specs.View.{TgsView}
use Rattle.tgs_exchange.specs.Rules.{client_rules, admitted}
use Rattle.tgs_exchange.specs.declared.decision.Decision.{Decision}
use Rattle.tgs_exchange.specs.declared.decision.Decision.TheVariants.{Refuses, Records, Repeats, Issues}
use Rattle.tgs_exchange.specs.declared.terms.Admission.{Admission}

-- a decision with what its reference points to
abbrev pub decision_copied : {K : Type 0} → Decision (Bor K) → Decision K
decision_copied (Refuses refusal) = Refuses refusal
decision_copied (Records refusal) = Records refusal
decision_copied (Repeats kept) = Repeats kept.now
decision_copied (Issues admission) = Issues admission

-- the pair that identifies an authenticator
abbrev pub stamp_of : Presented → Stamp
stamp_of p = (p.authenticator.ctime, p.authenticator.cusec)

-- the verdict of the client's replay cache on it (RFC 4120, section 3.2.3)
abbrev pub verdict_on : TgsView → ℤ → Presented → Verdict Kept
verdict_on v now p = verdict v.cache now (stamp_of p) v.limits.remembered

-- ---- in order: the client, the authenticator, the ticket and what is requested

-- a new authenticator is recorded, whatever is decided on its request
abbrev pub by_admission : Result Admission TgsRefusal → Decision Kept
by_admission (Err refusal) = Records refusal
by_admission (Ok admission) = Issues admission

-- outside the clock skew, full (section 3.2.3), or a repeat (section 3.3.2)
abbrev pub unless_repeated : TgsView → ℤ → ReqBody → Presented → Verdict Kept → Decision Kept
unless_repeated v now body p Skew = Refuses (Ap Skewed)
unless_repeated v now body p (Repeat kept) = Repeats kept
unless_repeated v now body p NoPlace = Refuses (Ap Full)
unless_repeated v now body p Fresh = by_admission (admitted v now body p)

abbrev pub unless_client_refused : TgsView → ℤ → ReqBody → Presented → Option TgsRefusal → Decision Kept
unless_client_refused v now body p (Some refusal) = Refuses refusal
unless_client_refused v now body p None = unless_repeated v now body p (verdict_on v now p)

abbrev pub decision : TgsView → ℤ → ReqBody → Presented → Decision Kept
decision v now body p = unless_client_refused v now body p (first_holding (client_rules v now p.ticket.authtime))

-- a property of the admission if a ticket is issued
abbrev pub IfIssued : {K : Type 0} → Decision K → (Admission → Type 0) → Type 0
IfIssued (Refuses refusal) P = ⊤
IfIssued (Records refusal) P = ⊤
IfIssued (Repeats kept) P = ⊤
IfIssued (Issues admission) P = P admission
