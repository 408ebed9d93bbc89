-- The names in an admission are those of the request and have rows, and its keys are from these rows.
use Rattle.std.proofs.Common.{◌≡◌, ◌≤◌, List, [], ◌∷◌, length, ℤ, pos, Option, Some, None, Result, Ok, Err, ap, sym}
use Rattle.std.proofs.Common.{subst, ◌∙◌, arith}
use Rattle.std.specs.Prelude.{IfOk, IfSome}
use Rattle.std.specs.Option.{unwrap_or}
use Rattle.enctypes.specs.Etype.{number}
use Rattle.enctypes.specs.declared.key.Key.{Key}
use Rattle.kdc_replies.specs.ServiceTerms.{current_keys, service_terms}
use Rattle.kdc_replies.specs.ServiceTermsLaws.{found_terms}
use Rattle.kdc_replies.specs.declared.services.ServiceTerms.{ServiceTerms}
use Rattle.krb_elements.specs.Codec.{list_of}
use Rattle.krb_fields.specs.NameLimits.{IsWithinLimits}
use Rattle.krb_fields.specs.PaData.{PaData, pa_data, pa_data_form}
use Rattle.krb_fields.specs.PrincipalName.{Name}
use Rattle.krb_types.specs.ReqBody.{ReqBody}
use Rattle.preauth.specs.KeyLaws.{current_found, first_found}
use Rattle.preauth.specs.Keys.{first_key, key_by, key_named}
use Rattle.preauth.specs.declared.timestamp.Outcome.{Outcome}
use Rattle.principal_rows.specs.Versions.{current}
use Rattle.principal_rows.specs.declared.row.Row.{Row}
use Rattle.rule_lists.specs.RefusalLaws.{decided_found}
use Rattle.rule_lists.specs.Refusals.{Rule, decided}
use Rattle.ticket_times.specs.declared.times.Times.{Times}
use Rattle.as_exchange.specs.View.{AsView}
use Rattle.as_exchange.specs.Known.{IsKnown}
use Rattle.as_exchange.specs.Terms.{terms, terms_by, terms_if, common_terms, admission_of}
use Rattle.as_exchange.specs.declared.terms.Terms.{Terms}
use Rattle.as_exchange.specs.declared.terms.Admission.{Admission}

-- Both names are within the limits, and both keys are those of the rows with their encryption type and key version.
pub record IsNamed (client_row service_row : Option Row) (t : Terms) : Type 0 where
  pub client : IsWithinLimits t.client_name.components
  pub service : IsWithinLimits t.service.name.components
  pub reply_key : key_named client_row (number t.reply_key.etype) (Some (pos t.reply_version)) ≡ Some t.reply_key
  pub service_key : key_named service_row (number t.service.key.key.etype)
      (Some (pos t.service.key.version)) ≡ Some t.service.key.key

pub admitted_terms : (timestamp : Outcome) (o : Option Terms) (times : Option Times) (a : Admission)
    → admission_of timestamp o times ≡ Some a → o ≡ Some a.terms
admitted_terms timestamp (Some t) (Some times) a e = ap (λ (o : Option Admission). again o) e
  where
    again : Option Admission → Option Terms
    again (Some b) = Some b.terms
    again None = Some t
admitted_terms timestamp (Some t) None a e = absurd cc
admitted_terms timestamp None times a e = absurd cc

-- what the terms consist of
pub found_by : (cname : Name) (client : Row) (reply : Option Key) (service : Option ServiceTerms) (t : Terms)
    → terms_by cname client reply service ≡ Some t
    → (cname ≡ t.client_name) × (reply ≡ Some t.reply_key) × ((current client.versions).number ≡ t.reply_version)
    × (service ≡ Some t.service)
found_by cname client None service t e = absurd cc
found_by cname client (Some r) None t e = absurd cc
found_by cname client (Some r) (Some s) t e = (
  ap (λ (o : Option Terms). (unwrap_or o t).client_name) e,
  ap (λ (o : Option Terms). Some (unwrap_or o t).reply_key) e,
  ap (λ (o : Option Terms). (unwrap_or o t).reply_version) e,
  ap (λ (o : Option Terms). Some (unwrap_or o t).service) e,
)

named_of : (types : List ℤ) (cname sname : Name) (client service : Row) (t : Terms) → IsWithinLimits cname.components
    → IsWithinLimits sname.components
    → common_terms types cname sname client service ≡ Some t → IsNamed (Some client) (Some service) t
named_of types cname sname client service t c s e =
    let found = found_by cname client (first_key (current_keys client) types) (service_terms types sname service) t e in
    let of_service = found_terms types sname service t.service found.3 in
    record {
      client = subst (λ (n : Name). IsWithinLimits n.components) found.0 c;
      service = subst (λ (n : Name). IsWithinLimits n.components) of_service.0 s;
      reply_key = ap (λ n. key_by client.versions (number t.reply_key.etype) (Some (pos n))) (sym found.2)
          ∙ current_found client.versions t.reply_key (first_found (current_keys client) types t.reply_key found.1);
      service_key = of_service.1;
    }

named_if : (types : List ℤ) (cname sname : Option Name) (client service : Option Row) (t : Terms)
    → IfSome client (λ row. IfSome cname (λ n. IsWithinLimits n.components))
    → IfSome service (λ row. IfSome sname (λ n. IsWithinLimits n.components))
    → terms_if types cname sname client service ≡ Some t → IsNamed client service t
named_if types (Some cname) (Some sname) (Some client) (Some service) t c s e =
    named_of types cname sname client service t c s e
named_if types (Some cname) (Some sname) (Some client) None t c s e = absurd cc
named_if types (Some cname) (Some sname) None service t c s e = absurd cc
named_if types (Some cname) None client service t c s e = absurd cc
named_if types None sname client service t c s e = absurd cc

-- the terms of an admission
pub decided_named : {R : Type 0} (rules : List (Rule R)) (v : AsView) (body : ReqBody) (timestamp : Outcome)
    (found : Option Terms) (times : Option Times) (otherwise : R) (a : Admission)
    → IsKnown v body → found ≡ terms v body → decided rules (admission_of timestamp found times) otherwise ≡ Ok a
    → IsNamed v.client v.service a.terms
decided_named rules v body timestamp found times otherwise a known is e =
    named_if body.etype body.cname body.sname v.client v.service a.terms known.client known.service
    (subst (λ (o : Option Terms). o ≡ Some a.terms) is
    (admitted_terms timestamp found times a
    (decided_found rules (admission_of timestamp found times) otherwise a e)))

pub admitted_named : {R : Type 0} (rules : List (Rule R)) (v : AsView) (body : ReqBody) (timestamp : Outcome)
    (found : Option Terms) (times : Option Times) (otherwise : R) (r : Result Admission R)
    → IsKnown v body → found ≡ terms v body → r ≡ decided rules (admission_of timestamp found times) otherwise
    → IfOk r (λ a. IsNamed v.client v.service a.terms)
admitted_named rules v body timestamp found times otherwise (Ok a) known is e =
    decided_named rules v body timestamp found times otherwise a known is (sym e)
admitted_named rules v body timestamp found times otherwise (Err refusal) known is e = tt

-- ---- a single PA-ETYPE-INFO2 is short
pub data_short : (info : PaData) (list : List PaData) → length info.padata_value ≤ 32926 → list ≡ info ∷ []
    → length ((list_of pa_data).text list) ≤ 70000
unfolding pa_data_form
data_short info list short same =
    subst (λ (l : List PaData). length ((list_of pa_data).text l) ≤ 70000) (sym same)
    (omega (arith, short, (list_of pa_data).bounded (info ∷ [])))
