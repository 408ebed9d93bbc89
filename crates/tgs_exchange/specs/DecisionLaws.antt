-- The facts behind a decision: the replay cache's verdict on the authenticator; and an issued ticket names principals
-- with rows.
use Rattle.std.proofs.Common.{◌≡◌, ℤ, Option, Some, None, Result, Ok, Err, IfOk, refl, sym, subst}
use Rattle.std.specs.Borrow.{Bor}
use Rattle.std.specs.Prelude.{⊤}
use Rattle.rule_lists.specs.Refusals.{first_holding}
use Rattle.krb_types.specs.ReqBody.{ReqBody}
use Rattle.replay.specs.declared.keep.Kept.{Kept}
use Rattle.replay.specs.declared.verdict.Verdict.{Verdict}
use Rattle.replay.specs.declared.verdict.Verdict.TheVariants.{Fresh, Skew, Repeat, Full as NoPlace}
use Rattle.tgs_opening.specs.declared.presented.Presented.{Presented}
use Rattle.tgs_opening.specs.declared.refusal.TgsRefusal.{TgsRefusal}
use Rattle.tgs_opening.specs.declared.refusal.TgsRefusal.TheVariants.{NeverValid}
use Rattle.tgs_exchange.specs.View.{TgsView}
use Rattle.tgs_exchange.specs.Known.{IsKnown}
use Rattle.ap_req.specs.Validity.{ticket_terms}
use Rattle.tgs_exchange.specs.Terms.{terms, times_of}
use Rattle.tgs_exchange.specs.Rules.{admitted, client_rules, rules_by}
use Rattle.tgs_exchange.specs.NamedLaws.{IsNamed, admitted_named}
use Rattle.tgs_exchange.specs.Decision.{IfIssued, by_admission, unless_client_refused, unless_repeated, decision}
use Rattle.tgs_exchange.specs.Decision.{decision_copied}
use Rattle.tgs_exchange.specs.Decision.{verdict_on}
use Rattle.tgs_exchange.specs.declared.decision.Decision.{Decision}
use Rattle.tgs_exchange.specs.declared.decision.Decision.TheVariants.{Refuses, Records, Repeats, Issues}
use Rattle.tgs_exchange.specs.declared.terms.Admission.{Admission}

-- the cache's verdict on the authenticator, for each decision
abbrev pub HasSaid : TgsView → ℤ → Presented → Decision Kept → Type 0
HasSaid v now p (Refuses refusal) = ⊤
HasSaid v now p (Records refusal) = verdict_on v now p ≡ Fresh
HasSaid v now p (Repeats kept) = verdict_on v now p ≡ Repeat kept
HasSaid v now p (Issues admission) = verdict_on v now p ≡ Fresh

module _ (v : TgsView) (now : ℤ) (body : ReqBody) (p : Presented) where
  said_by_admission : verdict_on v now p ≡ Fresh → (r : Result Admission TgsRefusal) → HasSaid v now p (by_admission r)
  said_by_admission e (Err refusal) = e
  said_by_admission e (Ok admission) = e

  said_by_verdict : (w : Verdict Kept) → verdict_on v now p ≡ w → HasSaid v now p (unless_repeated v now body p w)
  said_by_verdict Fresh e = said_by_admission e (admitted v now body p)
  said_by_verdict Skew e = tt
  said_by_verdict (Repeat kept) e = e
  said_by_verdict NoPlace e = tt

  said_by_client : (r : Option TgsRefusal) → HasSaid v now p (unless_client_refused v now body p r)
  said_by_client (Some refusal) = tt
  said_by_client None = said_by_verdict (verdict_on v now p) refl

  pub has_said : HasSaid v now p (decision v now body p)
  has_said = said_by_client (first_holding (client_rules v now p.ticket.authtime))

module _ (v : TgsView) (now : ℤ) (body : ReqBody) (p : Presented) (known : IsKnown v body p) where
  named_by_admission : (r : Result Admission TgsRefusal) → IfOk r (λ a. IsNamed p v.service a.terms)
      → IfIssued (by_admission r) (λ a. IsNamed p v.service a.terms)
  named_by_admission (Ok admission) named = named
  named_by_admission (Err refusal) named = tt

  named_by_verdict : (w : Verdict Kept) → IfIssued (unless_repeated v now body p w) (λ a. IsNamed p v.service a.terms)
  named_by_verdict Fresh =
      let times = times_of v.limits now (ticket_terms p.ticket) body (terms v body) in
      named_by_admission (admitted v now body p)
      (admitted_named (rules_by v now body p (terms v body) times) v body p (terms v body) times NeverValid
      (admitted v now body p) known refl refl)
  named_by_verdict Skew = tt
  named_by_verdict (Repeat kept) = tt
  named_by_verdict NoPlace = tt

  named_by_client : (r : Option TgsRefusal) → IfIssued (unless_client_refused v now body p r)
      (λ a. IsNamed p v.service a.terms)
  named_by_client (Some refusal) = tt
  named_by_client None = named_by_verdict (verdict_on v now p)

  copied_named : (decided : Decision (Bor Kept)) → IfIssued (decision_copied decided) (λ a. IsNamed p v.service a.terms)
      → IfIssued decided (λ a. IsNamed p v.service a.terms)
  copied_named (Refuses refusal) named = tt
  copied_named (Records refusal) named = tt
  copied_named (Repeats kept) named = tt
  copied_named (Issues admission) named = named

  -- an issued ticket names a client and a service that have rows, and a key of the service's
  pub issued_named : (decided : Decision (Bor Kept)) → decision_copied decided ≡ decision v now body p
      → IfIssued decided (λ a. IsNamed p v.service a.terms)
  issued_named decided is =
      copied_named decided
      (subst (λ (d : Decision Kept). IfIssued d (λ a. IsNamed p v.service a.terms)) (sym is)
      (named_by_client (first_holding (client_rules v now p.ticket.authtime))))
