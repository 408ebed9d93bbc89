-- The outcome of a TGS-REQ is true of its reply.
use Rattle.std.proofs.Common.{◌≡◌, ◌≤◌, ℕ, Bool, true, false, if◌then◌else◌, List, length, Option, Some, None, refl}
use Rattle.std.proofs.Common.{subst, sym}
use Rattle.std.specs.Prelude.{nat_le}
use Rattle.std.specs.FinMap as map
use Rattle.kdc_replies.specs.ErrorReply.{too_big}
use Rattle.kdc_replies.specs.GrantLaws.{session_key_size}
use Rattle.krb_fields.specs.declared.moment.Moment.{Moment}
use Rattle.krb_types.specs.ReqBody.{ReqBody}
use Rattle.replay.specs.ReplayCache.{if_kept, recent}
use Rattle.replay.specs.Stamp.{is_beyond_clock_skew}
use Rattle.replay.specs.declared.keep.Kept.{Kept}
use Rattle.replay.specs.declared.verdict.Verdict.TheVariants.{Fresh, Skew, Repeat, Full as NoPlace}
use Rattle.tgs_opening.specs.declared.presented.Presented.{Presented}
use Rattle.tgs_exchange.specs.View.{TgsView}
use Rattle.tgs_exchange.specs.Answer.{Opens, OpensBy, tgs_error}
use Rattle.tgs_exchange.specs.AskedLaws.{IsAsked, issued_asked}
use Rattle.tgs_exchange.specs.Decision.{IfIssued, decision, stamp_of, verdict_on}
use Rattle.tgs_exchange.specs.DecisionLaws.{HasSaid, has_said}
use Rattle.tgs_exchange.specs.Issued.{issued, issued_by}
use Rattle.tgs_exchange.specs.Outcome.{TgsOutcomeHolds, OutcomeSpelled, OutcomeSpelledBy, WasKept}
use Rattle.tgs_exchange.specs.declared.decision.Decision.{Decision}
use Rattle.tgs_exchange.specs.declared.decision.Decision.TheVariants.{Refuses, Records, Repeats, Issues}
use Rattle.tgs_exchange.specs.declared.outcome.TgsOutcome.{TgsOutcome}
use Rattle.tgs_exchange.specs.declared.outcome.TgsOutcome.TheVariants.{Refused, Issued, Resent, TooBig}

-- a verdict that finds a repeat finds what is stored
repeat_by : {K : Type 0} (skewed : Bool) (found : Option K) (full : Bool) (kept : K)
    → (if skewed then Skew else if_kept found (if full then NoPlace else Fresh)) ≡ Repeat kept → found ≡ Some kept
repeat_by true found full kept e = absurd cc
repeat_by false (Some k) full kept e = cc
repeat_by false None true kept e = absurd cc
repeat_by false None false kept e = absurd cc

module _ (v : TgsView) (at : Moment) (random octets : List ℕ) (body : ReqBody) (p : Presented)
    (long : 32 ≤ length random) where
  repeat_kept : (kept : Kept) → verdict_on v at.sec p ≡ Repeat kept → map.get v.cache.pairs (stamp_of p) ≡ Some kept
  repeat_kept kept e =
      repeat_by (is_beyond_clock_skew v.cache.floor at.sec p.authenticator.ctime) (map.get v.cache.pairs (stamp_of p))
      (nat_le v.limits.remembered (recent v.cache at.sec)) kept e

  holds_by : (outcome : TgsOutcome) (decided : Decision Kept) → IfIssued decided (IsAsked body)
      → HasSaid v at.sec p decided → OutcomeSpelledBy v at random body p outcome decided octets → OpensBy v at random body p decided
      → TgsOutcomeHolds (map.get v.cache.pairs (stamp_of p)) (issued_by v at random body p decided) (Some p.ticket.cname)
      body.sname outcome octets
  holds_by (Refused refusal) decided asked said spelled opens = (tgs_error v.realm at body refusal, refl, spelled)
  holds_by TooBig decided asked said spelled opens = (too_big v.realm at body, refl, spelled)
  holds_by (Issued granted) (Refuses refusal) asked said nothing opens = absurd nothing
  holds_by (Issued granted) (Records refusal) asked said nothing opens = absurd nothing
  holds_by (Issued granted) (Repeats kept) asked said nothing opens = absurd nothing
  holds_by (Issued granted) (Issues admission) asked said sent opens = record {
    reply = record {
      spelled = sent.1;
      client_reads = opens.0.client_reads;
      service_reads = opens.0.service_reads;
      session_key = session_key_size admission.terms.service.session_type random long;
    };
    client_is = refl;
    service_is = asked;
    granted_is = sent.0;
  }
  holds_by (Resent bears) (Refuses refusal) asked said nothing opens = absurd nothing
  holds_by (Resent bears) (Records refusal) asked said nothing opens = absurd nothing
  holds_by (Resent bears) (Repeats kept) asked said sent opens =
      subst (λ (o : Option Kept). WasKept o bears octets) (sym (repeat_kept kept said)) sent
  holds_by (Resent bears) (Issues admission) asked said nothing opens = absurd nothing

  -- the outcome says what the bytes are
  pub outcome_holds : (outcome : TgsOutcome) → OutcomeSpelled v at random body p outcome octets → Opens v at random body p
      → TgsOutcomeHolds (map.get v.cache.pairs (stamp_of p)) (issued v at random body p) (Some p.ticket.cname) body.sname outcome
      octets
  outcome_holds outcome spelled opens =
      holds_by outcome (decision v at.sec body p) (issued_asked v at.sec body p) (has_said v at.sec body p) spelled opens
