-- The client of the presented ticket and the service of an admission have rows, and the service's key is in its row.
use Rattle.std.proofs.Common.{◌≡◌, List, ℤ, pos, Option, Some, None, Result, Ok, Err, ap, sym, subst}
use Rattle.std.specs.Prelude.{IfOk, IfSome}
use Rattle.std.specs.Option.{unwrap_or}
use Rattle.enctypes.specs.Etype.{number}
use Rattle.kdc_replies.specs.ServiceTerms.{service_terms}
use Rattle.kdc_replies.specs.ServiceTermsLaws.{found_terms}
use Rattle.kdc_replies.specs.declared.services.ServiceTerms.{ServiceTerms}
use Rattle.krb_fields.specs.NameLimits.{IsWithinLimits}
use Rattle.krb_fields.specs.PrincipalName.{Name}
use Rattle.krb_types.specs.ReqBody.{ReqBody}
use Rattle.preauth.specs.Keys.{key_named}
use Rattle.principal_rows.specs.declared.row.Row.{Row}
use Rattle.rule_lists.specs.RefusalLaws.{decided_found}
use Rattle.rule_lists.specs.Refusals.{Rule, decided}
use Rattle.ticket_times.specs.declared.times.Times.{Times}
use Rattle.tgs_opening.specs.declared.presented.Presented.{Presented}
use Rattle.tgs_exchange.specs.View.{TgsView}
use Rattle.tgs_exchange.specs.Known.{IsKnown}
use Rattle.tgs_exchange.specs.Terms.{terms, terms_if, terms_by, admission_of}
use Rattle.tgs_exchange.specs.declared.terms.Terms.{Terms}
use Rattle.tgs_exchange.specs.declared.terms.Admission.{Admission}

-- Both names are within the limits, and the service's key is the one in its row with this type and version.
pub record IsNamed (p : Presented) (service_row : Option Row) (t : Terms) : Type 0 where
  pub client : IsWithinLimits p.ticket.cname.components
  pub service : IsWithinLimits t.service.name.components
  pub service_key : key_named service_row (number t.service.key.key.etype)
      (Some (pos t.service.key.version)) ≡ Some t.service.key.key

pub admitted_terms : (o : Option Terms) (times : Option Times) (a : Admission) → admission_of o times ≡ Some a
    → o ≡ Some a.terms
admitted_terms (Some t) (Some times) a e = ap (λ (o : Option Admission). again o) e
  where
    again : Option Admission → Option Terms
    again (Some b) = Some b.terms
    again None = Some t
admitted_terms (Some t) None a e = absurd cc
admitted_terms None times a e = absurd cc

pub found_by : (client : Row) (service : Option ServiceTerms) (t : Terms) → terms_by client service ≡ Some t
    → service ≡ Some t.service
found_by client None t e = absurd cc
found_by client (Some s) t e = ap (λ (o : Option Terms). Some (unwrap_or o t).service) e

named_of : (p : Presented) (types : List ℤ) (sname : Name) (client service : Row) (t : Terms)
    → IsWithinLimits p.ticket.cname.components → IsWithinLimits sname.components
    → terms_by client (service_terms types sname service) ≡ Some t → IsNamed p (Some service) t
named_of p types sname client service t c s e =
    let found = found_terms types sname service t.service (found_by client (service_terms types sname service) t e) in
    record { client = c; service = subst (λ (n : Name). IsWithinLimits n.components) found.0 s; service_key = found.1 }

named_if : (p : Presented) (types : List ℤ) (sname : Option Name) (client service : Option Row) (t : Terms)
    → IfSome client (λ row. IsWithinLimits p.ticket.cname.components)
    → IfSome service (λ row. IfSome sname (λ n. IsWithinLimits n.components))
    → terms_if types sname client service ≡ Some t → IsNamed p service t
named_if p types (Some sname) (Some client) (Some service) t c s e = named_of p types sname client service t c s e
named_if p types (Some sname) (Some client) None t c s e = absurd cc
named_if p types (Some sname) None service t c s e = absurd cc
named_if p types None client service t c s e = absurd cc

decided_named : {R : Type 0} (rules : List (Rule R)) (v : TgsView) (body : ReqBody) (p : Presented)
    (found : Option Terms)
    (times : Option Times) (otherwise : R) (a : Admission)
    → IsKnown v body p → found ≡ terms v body → decided rules (admission_of found times) otherwise ≡ Ok a
    → IsNamed p v.service a.terms
decided_named rules v body p found times otherwise a known is e =
    named_if p body.etype body.sname v.client v.service a.terms known.client known.service
    (subst (λ (o : Option Terms). o ≡ Some a.terms) is
    (admitted_terms found times a (decided_found rules (admission_of found times) otherwise a e)))

-- the names and the key of an admission
pub admitted_named : {R : Type 0} (rules : List (Rule R)) (v : TgsView) (body : ReqBody) (p : Presented)
    (found : Option Terms) (times : Option Times) (otherwise : R) (r : Result Admission R)
    → IsKnown v body p → found ≡ terms v body → r ≡ decided rules (admission_of found times) otherwise
    → IfOk r (λ a. IsNamed p v.service a.terms)
admitted_named rules v body p found times otherwise (Ok a) known is e =
    decided_named rules v body p found times otherwise a known is (sym e)
admitted_named rules v body p found times otherwise (Err refusal) known is e = tt
