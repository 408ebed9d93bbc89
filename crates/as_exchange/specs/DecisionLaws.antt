-- Tickets are issued only to names that have rows.
use Rattle.std.proofs.Common.{◌≡◌, ℤ, Result, Ok, Err, IfOk, refl, sym, subst}
use Rattle.krb_types.specs.KdcReq.{Received}
use Rattle.preauth.specs.declared.timestamp.Outcome.{Outcome}
use Rattle.as_exchange.specs.View.{AsView}
use Rattle.as_exchange.specs.Known.{IsKnown}
use Rattle.as_exchange.specs.Terms.{terms, times_of}
use Rattle.as_exchange.specs.Rules.{admitted, rules_by, timestamp_of}
use Rattle.as_exchange.specs.NamedLaws.{IsNamed, admitted_named}
use Rattle.as_exchange.specs.Decision.{IfIssued, by_admission, by_timestamp, decision}
use Rattle.as_exchange.specs.declared.decision.Decision.{Decision}
use Rattle.as_exchange.specs.declared.refusal.AsRefusal.{AsRefusal}
use Rattle.as_exchange.specs.declared.refusal.AsRefusal.TheVariants.{NeverValid}
use Rattle.as_exchange.specs.declared.terms.Admission.{Admission}

module _ (v : AsView) (now : ℤ) (message : Received) (known : IsKnown v message.body.value) where
  named_by_admission : (timestamp : Outcome) (r : Result Admission AsRefusal)
      → IfOk r (λ a. IsNamed v.client v.service a.terms)
      → IfIssued (by_admission timestamp r) (λ a. IsNamed v.client v.service a.terms)
  named_by_admission timestamp (Ok admission) named = named
  named_by_admission timestamp (Err refusal) named = tt

  named_by_timestamp : (timestamp : Outcome)
      → IfIssued (by_timestamp v now message timestamp) (λ a. IsNamed v.client v.service a.terms)
  named_by_timestamp timestamp =
      let body = message.body.value in
      let times = times_of v.limits now body (terms v body) in
      named_by_admission timestamp (admitted v now message timestamp)
      (admitted_named (rules_by v now message timestamp (terms v body) times) v body timestamp (terms v body) times
      NeverValid (admitted v now message timestamp) known refl refl)

  -- an admission names a client and a service that have rows, with keys from these rows
  pub issued_named : (decided : Decision) → decided ≡ decision v now message
      → IfIssued decided (λ a. IsNamed v.client v.service a.terms)
  issued_named decided is =
      subst (λ (d : Decision). IfIssued d (λ a. IsNamed v.client v.service a.terms)) (sym is)
      (named_by_timestamp (timestamp_of v.client now message))
