-- A ticket is issued to the client and for the service that the request names.
use Rattle.std.proofs.Common.{◌≡◌, ℤ, List, Option, Some, None, Result, Ok, Err, refl, sym, ap}
use Rattle.std.specs.Prelude.{IfOk}
use Rattle.kdc_replies.specs.ServiceTerms.{current_keys, service_terms}
use Rattle.kdc_replies.specs.ServiceTermsLaws.{found_terms}
use Rattle.krb_fields.specs.PrincipalName.{Name}
use Rattle.krb_types.specs.KdcReq.{Received}
use Rattle.krb_types.specs.ReqBody.{ReqBody}
use Rattle.preauth.specs.Keys.{first_key}
use Rattle.preauth.specs.declared.timestamp.Outcome.{Outcome}
use Rattle.principal_rows.specs.declared.row.Row.{Row}
use Rattle.rule_lists.specs.RefusalLaws.{decided_found}
use Rattle.rule_lists.specs.Refusals.{Rule, decided}
use Rattle.ticket_times.specs.declared.times.Times.{Times}
use Rattle.as_exchange.specs.View.{AsView}
use Rattle.as_exchange.specs.Terms.{admission_of, terms, terms_if, common_terms, times_of}
use Rattle.as_exchange.specs.Rules.{admitted, rules_by, timestamp_of}
use Rattle.as_exchange.specs.NamedLaws.{admitted_terms, found_by}
use Rattle.as_exchange.specs.Decision.{IfIssued, by_admission, decision}
use Rattle.as_exchange.specs.declared.refusal.AsRefusal.{AsRefusal}
use Rattle.as_exchange.specs.declared.refusal.AsRefusal.TheVariants.{NeverValid}
use Rattle.as_exchange.specs.declared.terms.Admission.{Admission}
use Rattle.as_exchange.specs.declared.terms.Terms.{Terms}

-- both names are the request's
abbrev pub AreAsked : ReqBody → Admission → Type 0
AreAsked body a = (body.cname ≡ Some a.terms.client_name) × (body.sname ≡ Some a.terms.service.name)

asked_of : (types : List ℤ) (cname sname : Name) (client service : Row) (t : Terms)
    → common_terms types cname sname client service ≡ Some t
    → (Some cname ≡ Some t.client_name) × (Some sname ≡ Some t.service.name)
asked_of types cname sname client service t e =
    let found = found_by cname client (first_key (current_keys client) types) (service_terms types sname service) t e in
    (ap Some found.0, ap Some (found_terms types sname service t.service found.3).0)

asked_if : (types : List ℤ) (cname sname : Option Name) (client service : Option Row) (t : Terms)
    → terms_if types cname sname client service ≡ Some t
    → (cname ≡ Some t.client_name) × (sname ≡ Some t.service.name)
asked_if types (Some cname) (Some sname) (Some client) (Some service) t e =
    asked_of types cname sname client service t e
asked_if types (Some cname) (Some sname) (Some client) None t e = absurd cc
asked_if types (Some cname) (Some sname) None service t e = absurd cc
asked_if types (Some cname) None client service t e = absurd cc
asked_if types None sname client service t e = absurd cc

module _ (v : AsView) (body : ReqBody) where
  admitted_asked : {R : Type 0} (rules : List (Rule R)) (timestamp : Outcome) (times : Option Times) (otherwise : R)
      (r : Result Admission R) → r ≡ decided rules (admission_of timestamp (terms v body) times) otherwise
      → IfOk r (AreAsked body)
  admitted_asked rules timestamp times otherwise (Ok a) e =
      asked_if body.etype body.cname body.sname v.client v.service a.terms
      (admitted_terms timestamp (terms v body) times a
      (decided_found rules (admission_of timestamp (terms v body) times) otherwise a (sym e)))
  admitted_asked rules timestamp times otherwise (Err refusal) e = tt

  asked_by_admission : (timestamp : Outcome) (r : Result Admission AsRefusal) → IfOk r (AreAsked body)
      → IfIssued (by_admission timestamp r) (AreAsked body)
  asked_by_admission timestamp (Ok admission) asked = asked
  asked_by_admission timestamp (Err refusal) asked = tt

module _ (v : AsView) (now : ℤ) (message : Received) where
  -- the names of an admission are those of the request
  pub issued_asked : IfIssued (decision v now message) (AreAsked message.body.value)
  issued_asked =
      let body = message.body.value in
      let timestamp = timestamp_of v.client now message in
      let times = times_of v.limits now body (terms v body) in
      asked_by_admission v body timestamp (admitted v now message timestamp)
      (admitted_asked v body (rules_by v now message timestamp (terms v body) times) timestamp times NeverValid
      (admitted v now message timestamp) refl)
