-- What the answer to a TGS-REQ records.
use Rattle.std.proofs.Common.{◌≡◌, false, Option, Some, None, IfSome, refl, ap, sym, subst, ◌∙◌}
use Rattle.std.specs.FinMap as map
use Rattle.krb_fields.specs.declared.moment.Moment.{Moment}
use Rattle.replay.specs.Stamp.{is_beyond_clock_skew}
use Rattle.replay.specs.declared.keep.Kept.{Kept}
use Rattle.tgs_exchange.specs.Decision.{stamp_of}
use Rattle.tgs_opening.specs.declared.presented.Presented.{Presented}
use Rattle.kdc_state.specs.State.{cache_of}
use Rattle.kdc_state.specs.declared.state.State.{State}
use Rattle.kdc_core.specs.After.{after, authenticator_mark, MayStay}
use Rattle.kdc_core.specs.Answer.{keep, stamped}
use Rattle.kdc_core.specs.declared.mark.Mark.{Mark}

module _ (state : State) (at : Moment) (p : Presented) where
  stamped_after : (kept : Option Kept) → after state (authenticator_mark at p kept) ≡ keep state (Some p.ticket.cname.components)
      (stamped (cache_of state p.ticket.cname.components) at.sec p kept)
  stamped_after (Some kept) = refl
  stamped_after None = refl

  stamped_stays : (kept : Option Kept)
      → IfSome kept (λ k. is_beyond_clock_skew (cache_of state p.ticket.cname.components).floor at.sec p.authenticator.ctime ≡ false)
      → IfSome kept (λ k. map.get (cache_of state p.ticket.cname.components).pairs (stamp_of p) ≡ None)
      → IfSome (authenticator_mark at p kept) (MayStay state)
  stamped_stays (Some kept) timely new = (timely, new)
  stamped_stays None timely new = tt

  module _ (mark : Option Mark) (kept : Option Kept) (is : mark ≡ authenticator_mark at p kept) where
    pub recorded_after : (given : Option Kept) → kept ≡ given → after state mark ≡ keep state (Some p.ticket.cname.components)
        (stamped (cache_of state p.ticket.cname.components) at.sec p given)
    recorded_after given same =
        ap (after state) is ∙ subst (λ (k : Option Kept). after state (authenticator_mark at p kept) ≡ keep state (Some p.ticket.cname.components)
        (stamped (cache_of state p.ticket.cname.components) at.sec p k)) same (stamped_after kept)

    pub recorded_stays : IfSome kept (λ k. is_beyond_clock_skew (cache_of state p.ticket.cname.components).floor at.sec p.authenticator.ctime ≡ false)
        → IfSome kept (λ k. map.get (cache_of state p.ticket.cname.components).pairs (stamp_of p) ≡ None)
        → IfSome mark (MayStay state)
    recorded_stays timely new = subst (λ (m : Option Mark). IfSome m (MayStay state)) (sym is) (stamped_stays kept timely new)
