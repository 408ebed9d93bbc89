-- The TGS exchange issues tickets only to clients, and for services, in good standing.
use Rattle.std.proofs.Common.{◌≡◌, ℤ, ℕ, List, Option, Some, None, Result, Ok, Err, IfSome, refl, ap}
use Rattle.std.proofs.lemmas.Bool.{or_parts}
use Rattle.std.specs.Prelude.{◌||◌, not, nat_eq, is_none, option_map}
use Rattle.std.specs.Cmp.Lexicographic.{pointwise}
use Rattle.kdc_replies.specs.GoodStanding.{AreInGoodStanding}
use Rattle.kdc_replies.specs.GoodStandingLaws.{in_good_standing}
use Rattle.krb_fields.specs.Name.{Components}
use Rattle.krb_fields.specs.declared.moment.Moment.{Moment}
use Rattle.krb_types.specs.ReqBody.{ReqBody}
use Rattle.rule_lists.specs.ClearLaws.{AreClear, decided_clear}
use Rattle.rule_lists.specs.ConditionLaws.{clear_of}
use Rattle.rule_lists.specs.Refusals.{first_holding, unless_refused}
use Rattle.replay.specs.declared.keep.Kept.{Kept}
use Rattle.replay.specs.declared.verdict.Verdict.{Verdict}
use Rattle.replay.specs.declared.verdict.Verdict.TheVariants.{Fresh, Skew, Repeat, Full}
use Rattle.ticket_times.specs.declared.times.Times.{Times}
use Rattle.tgs_opening.specs.Refusal.{place_of}
use Rattle.tgs_opening.specs.declared.presented.Presented.{Presented}
use Rattle.tgs_opening.specs.declared.refusal.TgsRefusal.{TgsRefusal}
use Rattle.tgs_opening.specs.declared.refusal.TgsRefusal.TheVariants.{ClientDisabled, ClientExpired, ClientUnknown}
use Rattle.tgs_opening.specs.declared.refusal.TgsRefusal.TheVariants.{NeverValid, ServiceDenied, ServiceExpired}
use Rattle.tgs_opening.specs.declared.refusal.TgsRefusal.TheVariants.{ServiceRevoked, ServiceUnknown}
use Rattle.tgs_exchange.specs.View.{TgsView}
use Rattle.ap_req.specs.Validity.{ticket_terms}
use Rattle.tgs_exchange.specs.Terms.{admission_of, terms, times_of}
use Rattle.tgs_exchange.specs.Rules.{admitted, client_rules, rules_by}
use Rattle.tgs_exchange.specs.Decision.{by_admission, unless_client_refused, unless_repeated, verdict_on}
use Rattle.tgs_exchange.specs.Issued.{issued, issued_by}
use Rattle.tgs_exchange.specs.declared.terms.Admission.{Admission}
use Rattle.tgs_exchange.specs.declared.terms.Terms.{Terms}

abbrev service_name : ReqBody → Option Components
service_name body = option_map (λ name. name.components) body.sname

module _ (v : TgsView) (body : ReqBody) (p : Presented) where
  clear_standing : (now : ℤ) (found : Option Terms) (times : Option Times)
      → AreClear (client_rules v now p.ticket.authtime) → AreClear (rules_by v now body p found times)
      → AreInGoodStanding v.realm (service_name body) v.client v.service now
  clear_standing now found times client clear =
      let first = client_rules v now p.ticket.authtime in
      let rules = rules_by v now body p found times in
      let service = or_parts (not (pointwise nat_eq body.realm v.realm) || is_none body.sname) (is_none v.service)
      (clear_of place_of ServiceUnknown rules clear) in
      in_good_standing v.realm (service_name body) v.client v.service now (clear_of place_of ClientUnknown first client)
      (clear_of place_of ClientDisabled first client) (clear_of place_of ClientExpired first client) service.1
      (clear_of place_of ServiceDenied rules clear) (clear_of place_of ServiceRevoked rules clear)
      (clear_of place_of ServiceExpired rules clear)

  module _ (at : Moment) (random : List ℕ) where
    admitted_standing : AreClear (client_rules v at.sec p.ticket.authtime) → (r : Result Admission TgsRefusal)
        → admitted v at.sec body p ≡ r
        → IfSome (issued_by v at random body p (by_admission r)) (λ _. AreInGoodStanding v.realm (service_name body) v.client v.service at.sec)
    admitted_standing client (Ok admission) is =
        let found = terms v body in
        let times = times_of v.limits at.sec (ticket_terms p.ticket) body found in
        clear_standing at.sec found times client
        (decided_clear (rules_by v at.sec body p found times) (admission_of found times) NeverValid admission is)
    admitted_standing client (Err refusal) is = tt

    judged_standing : AreClear (client_rules v at.sec p.ticket.authtime) → (verdict : Verdict Kept)
        → IfSome (issued_by v at random body p (unless_repeated v at.sec body p verdict))
        (λ _. AreInGoodStanding v.realm (service_name body) v.client v.service at.sec)
    judged_standing client Skew = tt
    judged_standing client (Repeat kept) = tt
    judged_standing client Full = tt
    judged_standing client Fresh = admitted_standing client (admitted v at.sec body p) refl

    client_standing : (refused : Option TgsRefusal)
        → first_holding (client_rules v at.sec p.ticket.authtime) ≡ refused
        → IfSome (issued_by v at random body p (unless_client_refused v at.sec body p refused))
        (λ _. AreInGoodStanding v.realm (service_name body) v.client v.service at.sec)
    client_standing (Some refusal) is = tt
    client_standing None is =
        judged_standing
        (decided_clear (client_rules v at.sec p.ticket.authtime) (Some p) NeverValid p
        (ap (λ (o : Option TgsRefusal). unless_refused o (Some p) NeverValid) is))
        (verdict_on v at.sec p)

    -- the client and the service of an issued ticket are in good standing
    pub issued_standing : IfSome (issued v at random body p) (λ _. AreInGoodStanding v.realm (service_name body) v.client v.service at.sec)
    issued_standing = client_standing (first_holding (client_rules v at.sec p.ticket.authtime)) refl
