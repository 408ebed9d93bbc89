-- The AS exchange issues tickets only to clients, and for services, in good standing.
use Rattle.std.proofs.Common.{◌≡◌, ℤ, ℕ, List, Option, Result, Ok, Err, IfSome, refl}
use Rattle.std.proofs.lemmas.Bool.{or_parts}
use Rattle.std.specs.Prelude.{◌||◌, not, nat_eq, is_none, option_map}
use Rattle.std.specs.Cmp.Lexicographic.{pointwise}
use Rattle.kdc_replies.specs.GoodStanding.{AreInGoodStanding}
use Rattle.kdc_replies.specs.GoodStandingLaws.{in_good_standing}
use Rattle.krb_fields.specs.Name.{Components}
use Rattle.krb_fields.specs.declared.moment.Moment.{Moment}
use Rattle.krb_types.specs.KdcReq.{Received}
use Rattle.preauth.specs.declared.timestamp.Outcome.{Outcome}
use Rattle.rule_lists.specs.ClearLaws.{AreClear, decided_clear}
use Rattle.rule_lists.specs.ConditionLaws.{clear_of}
use Rattle.ticket_times.specs.declared.times.Times.{Times}
use Rattle.as_exchange.specs.View.{AsView}
use Rattle.as_exchange.specs.Terms.{admission_of, terms, times_of}
use Rattle.as_exchange.specs.Refusal.{place_of}
use Rattle.as_exchange.specs.Rules.{admitted, rules_by, timestamp_of}
use Rattle.as_exchange.specs.Decision.{by_admission}
use Rattle.as_exchange.specs.Issued.{issued, issued_by}
use Rattle.as_exchange.specs.declared.refusal.AsRefusal.{AsRefusal}
use Rattle.as_exchange.specs.declared.refusal.AsRefusal.TheVariants.{ClientDisabled, ClientExpired, ClientUnknown}
use Rattle.as_exchange.specs.declared.refusal.AsRefusal.TheVariants.{NeverValid, ServiceDenied, ServiceExpired}
use Rattle.as_exchange.specs.declared.refusal.AsRefusal.TheVariants.{ServiceRevoked, ServiceUnknown}
use Rattle.as_exchange.specs.declared.terms.Admission.{Admission}
use Rattle.as_exchange.specs.declared.terms.Terms.{Terms}

abbrev service_name : Received → Option Components
service_name message = option_map (λ name. name.components) message.body.value.sname

module _ (v : AsView) (message : Received) where
  clear_standing : (now : ℤ) (timestamp : Outcome) (found : Option Terms) (times : Option Times)
      → AreClear (rules_by v now message timestamp found times) → AreInGoodStanding v.realm (service_name message) v.client v.service now
  clear_standing now timestamp found times clear =
      let body = message.body.value in
      let rules = rules_by v now message timestamp found times in
      let client = or_parts (not (pointwise nat_eq body.realm v.realm) || is_none body.cname) (is_none v.client)
      (clear_of place_of ClientUnknown rules clear) in
      let service = or_parts (is_none body.sname) (is_none v.service) (clear_of place_of ServiceUnknown rules clear) in
      in_good_standing v.realm (service_name message) v.client v.service now client.1
      (clear_of place_of ClientDisabled rules clear) (clear_of place_of ClientExpired rules clear) service.1
      (clear_of place_of ServiceDenied rules clear) (clear_of place_of ServiceRevoked rules clear)
      (clear_of place_of ServiceExpired rules clear)

  module _ (at : Moment) (random : List ℕ) where
    admitted_standing : (timestamp : Outcome) (r : Result Admission AsRefusal)
        → admitted v at.sec message timestamp ≡ r
        → IfSome (issued_by v at random message.body.value (by_admission timestamp r))
        (λ _. AreInGoodStanding v.realm (service_name message) v.client v.service at.sec)
    admitted_standing timestamp (Ok admission) is =
        let body = message.body.value in
        let found = terms v body in
        let times = times_of v.limits at.sec body found in
        clear_standing at.sec timestamp found times
        (decided_clear (rules_by v at.sec message timestamp found times) (admission_of timestamp found times)
        NeverValid admission is)
    admitted_standing timestamp (Err refusal) is = tt

    -- the client and the service of an issued ticket are in good standing
    pub issued_standing : IfSome (issued v at random message)
        (λ _. AreInGoodStanding v.realm (service_name message) v.client v.service at.sec)
    issued_standing =
        let timestamp = timestamp_of v.client at.sec message in
        admitted_standing timestamp (admitted v at.sec message timestamp) refl
