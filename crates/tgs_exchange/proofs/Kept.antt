-- A request is stored only for an authenticator that is within the clock skew and no repeat.
use Rattle.std.proofs.Common.{◌≡◌, Bool, true, false, ◌&&◌, if◌then◌else◌, IfOk, IfSome, length, Option, Some, None, Result, Ok, Err, refl, sym, subst}
use Rattle.std.specs.Prelude.{nat_eq, nat_lt, nat_le}
use Rattle.std.specs.Cmp.Lexicographic.{pointwise}
use Rattle.std.specs.FinMap as map
use Rattle.kdc_replies.specs.Incoming.{Incoming}
use Rattle.krb_elements.specs.Codec.{written}
use Rattle.krb_types.specs.KdcRep.{kdc_rep}
use Rattle.krb_types.specs.ReqBody.{ReqBody}
use Rattle.replay.specs.ReplayCache.{if_kept, recent}
use Rattle.replay.specs.Stamp.{is_beyond_clock_skew}
use Rattle.replay.specs.declared.keep.Kept.{Kept}
use Rattle.replay.specs.declared.verdict.Verdict.TheVariants.{Fresh, Skew, Full as NoPlace}
use Rattle.tgs_opening.specs.declared.presented.Presented.{Presented}
use Rattle.tgs_exchange.specs.View.{TgsView}
use Rattle.tgs_exchange.specs.Issue.{tgs_rep}
use Rattle.tgs_exchange.specs.Answer.{TgsAnswer, answer_by, is_ticket, tgs_answer}
use Rattle.tgs_exchange.specs.Decision.{decision, stamp_of, verdict_on}
use Rattle.tgs_exchange.specs.DecisionLaws.{HasSaid, has_said}
use Rattle.tgs_exchange.specs.declared.decision.Decision.{Decision}
use Rattle.tgs_exchange.specs.declared.decision.Decision.TheVariants.{Refuses, Records, Repeats, Issues}

new_by : (skewed : Bool) (kept : Option Kept) (full : Bool) → (if skewed then Skew else if_kept kept (if full then NoPlace else Fresh)) ≡ Fresh → (skewed ≡ false) × (kept ≡ None)
new_by true kept full e = absurd cc
new_by false (Some k) full e = absurd cc
new_by false None full e = (refl, refl)

module _ (v : TgsView) (incoming : Incoming) (body : ReqBody) (p : Presented) where
  abbrev IsNew : Type 0
  IsNew = (is_beyond_clock_skew v.cache.floor incoming.at.sec p.authenticator.ctime ≡ false) × (map.get v.cache.pairs (stamp_of p) ≡ None)

  fresh_is_new : verdict_on v incoming.at.sec p ≡ Fresh → IsNew
  fresh_is_new e =
      new_by (is_beyond_clock_skew v.cache.floor incoming.at.sec p.authenticator.ctime) (map.get v.cache.pairs (stamp_of p)) (nat_le v.limits.remembered (recent v.cache incoming.at.sec)) e

  -- neither of two answers stores anything
  kept_by : (b : Bool) (x y : TgsAnswer) (P : Type 0) → IfSome x.kept (λ kept. P) → IfSome y.kept (λ kept. P) → IfSome (if b then x else y).kept (λ kept. P)
  kept_by true x y P of_x of_y = of_x
  kept_by false x y P of_x of_y = of_y

  decision_kept : (decided : Decision Kept) → HasSaid v incoming.at.sec p decided → IfSome (answer_by v incoming body p decided).kept (λ kept. IsNew)
  decision_kept (Refuses refusal) said = tt
  decision_kept (Records refusal) said = fresh_is_new said
  decision_kept (Repeats kept) said =
      kept_by (pointwise nat_eq incoming.octets kept.request) _ _ IsNew (kept_by (is_ticket kept.bears && nat_lt incoming.room (length kept.reply)) _ _ IsNew tt tt) tt
  decision_kept (Issues admission) said = kept_by (nat_lt incoming.room (length (written (kdc_rep 13) (tgs_rep v incoming.at incoming.random body p admission)))) _ _ IsNew tt (fresh_is_new said)

  answer_kept : IfSome (tgs_answer v incoming body p).kept (λ kept. IsNew)
  answer_kept = decision_kept (decision v incoming.at.sec body p) (has_said v incoming.at.sec body p)

  of_kept : (P : Type 0) → (IsNew → P) → (o : Option Kept) → IfSome o (λ kept. IsNew) → IfSome o (λ kept. P)
  of_kept P so (Some kept) new = so new
  of_kept P so None new = tt

  -- the same for a call with this answer
  pub kept_new : {A E : Type 0} (kept_of : A → Option Kept) (P : Type 0) → (IsNew → P) → (r : Result A E) → IfOk r (λ a. kept_of a ≡ (tgs_answer v incoming body p).kept)
      → IfOk r (λ a. IfSome (kept_of a) (λ kept. P))
  kept_new kept_of P so (Ok a) is = of_kept P so (kept_of a) (subst (λ (o : Option Kept). IfSome o (λ kept. IsNew)) (sym is) answer_kept)
  kept_new kept_of P so (Err e) is = tt
