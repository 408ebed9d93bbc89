-- A ticket is issued for the service that the request names.
use Rattle.std.proofs.Common.{◌≡◌, ℤ, List, Option, Some, None, Result, Ok, Err, refl, sym, ap}
use Rattle.std.specs.Prelude.{IfOk}
use Rattle.kdc_replies.specs.ServiceTerms.{service_terms}
use Rattle.kdc_replies.specs.ServiceTermsLaws.{found_terms}
use Rattle.krb_fields.specs.PrincipalName.{Name}
use Rattle.krb_types.specs.ReqBody.{ReqBody}
use Rattle.principal_rows.specs.declared.row.Row.{Row}
use Rattle.rule_lists.specs.RefusalLaws.{decided_found}
use Rattle.rule_lists.specs.Refusals.{Rule, decided, first_holding}
use Rattle.replay.specs.declared.keep.Kept.{Kept}
use Rattle.replay.specs.declared.verdict.Verdict.{Verdict}
use Rattle.replay.specs.declared.verdict.Verdict.TheVariants.{Fresh, Skew, Repeat, Full as NoPlace}
use Rattle.ticket_times.specs.declared.times.Times.{Times}
use Rattle.tgs_opening.specs.declared.presented.Presented.{Presented}
use Rattle.tgs_opening.specs.declared.refusal.TgsRefusal.{TgsRefusal}
use Rattle.tgs_opening.specs.declared.refusal.TgsRefusal.TheVariants.{NeverValid}
use Rattle.tgs_exchange.specs.View.{TgsView}
use Rattle.ap_req.specs.Validity.{ticket_terms}
use Rattle.tgs_exchange.specs.Terms.{admission_of, terms, terms_if, terms_by, times_of}
use Rattle.tgs_exchange.specs.Rules.{admitted, client_rules, rules_by}
use Rattle.tgs_exchange.specs.NamedLaws.{admitted_terms, found_by}
use Rattle.tgs_exchange.specs.Decision.{IfIssued, by_admission, unless_client_refused, unless_repeated, decision}
use Rattle.tgs_exchange.specs.Decision.{verdict_on}
use Rattle.tgs_exchange.specs.declared.terms.Admission.{Admission}
use Rattle.tgs_exchange.specs.declared.terms.Terms.{Terms}

-- the service is the request's
abbrev pub IsAsked : ReqBody → Admission → Type 0
IsAsked body a = body.sname ≡ Some a.terms.service.name

asked_of : (types : List ℤ) (sname : Name) (client service : Row) (t : Terms)
    → terms_by client (service_terms types sname service) ≡ Some t → Some sname ≡ Some t.service.name
asked_of types sname client service t e =
    ap Some (found_terms types sname service t.service (found_by client (service_terms types sname service) t e)).0

asked_if : (types : List ℤ) (sname : Option Name) (client service : Option Row) (t : Terms)
    → terms_if types sname client service ≡ Some t → sname ≡ Some t.service.name
asked_if types (Some sname) (Some client) (Some service) t e = asked_of types sname client service t e
asked_if types (Some sname) (Some client) None t e = absurd cc
asked_if types (Some sname) None service t e = absurd cc
asked_if types None client service t e = absurd cc

module _ (v : TgsView) (now : ℤ) (body : ReqBody) (p : Presented) where
  admitted_asked : {R : Type 0} (rules : List (Rule R)) (times : Option Times) (otherwise : R) (r : Result Admission R)
      → r ≡ decided rules (admission_of (terms v body) times) otherwise → IfOk r (IsAsked body)
  admitted_asked rules times otherwise (Ok a) e =
      asked_if body.etype body.sname v.client v.service a.terms
      (admitted_terms (terms v body) times a
      (decided_found rules (admission_of (terms v body) times) otherwise a (sym e)))
  admitted_asked rules times otherwise (Err refusal) e = tt

  asked_by_admission : (r : Result Admission TgsRefusal) → IfOk r (IsAsked body)
      → IfIssued (by_admission r) (IsAsked body)
  asked_by_admission (Ok admission) asked = asked
  asked_by_admission (Err refusal) asked = tt

  asked_by_verdict : (w : Verdict Kept) → IfIssued (unless_repeated v now body p w) (IsAsked body)
  asked_by_verdict Fresh =
      let times = times_of v.limits now (ticket_terms p.ticket) body (terms v body) in
      asked_by_admission (admitted v now body p)
      (admitted_asked (rules_by v now body p (terms v body) times) times NeverValid (admitted v now body p) refl)
  asked_by_verdict Skew = tt
  asked_by_verdict (Repeat kept) = tt
  asked_by_verdict NoPlace = tt

  asked_by_client : (r : Option TgsRefusal) → IfIssued (unless_client_refused v now body p r) (IsAsked body)
  asked_by_client (Some refusal) = tt
  asked_by_client None = asked_by_verdict (verdict_on v now p)

  -- an issued ticket has the service name of the request
  pub issued_asked : IfIssued (decision v now body p) (IsAsked body)
  issued_asked = asked_by_client (first_holding (client_rules v now p.ticket.authtime))
