use Rattle.std.proofs.Common.{rules, ◌≡◌, false, None, IfSome, ap, subst, ◌∙◌}
use Rattle.std.specs.FinMap as map
use Rattle.krb_fields.specs.declared.moment.Moment.{Moment}
use Rattle.replay.specs.Stamp.{is_beyond_clock_skew}
use Rattle.tgs_exchange.specs.Answer.{tgs_answer}
use Rattle.tgs_exchange.specs.Decision.{stamp_of}
use Rattle.tgs_exchange.specs.View.{TgsView}
use Rattle.kdc_core.proofs.Recording.{recorded_after, recorded_stays}
use Rattle.kdc_core.specs.After.{authenticator_mark}
use Rattle.kdc_core.specs.View.{presented_view, tgs_view}
use Rattle.kdc_core.proofs.tgs_replies.tgs_reply.Goals as goal

pub returns-clause-after : goal.returns-clause-after
returns-clause-after c =
    let q = c.args.incoming.now in
    let p = c.args.presented in
    let kept = c.in_ok-reply.field-0.kept in
    let at : c.incoming.inside.at ≡ q.at = search rules in
    let message = c.args.message.now in
    let given : kept ≡ (tgs_answer (tgs_view (presented_view c.args.state.now message p)) q message.body.value p).kept = search rules in
    recorded_after c.args.state.now q.at p c.in_ok-mark.mark kept (c.in_ok-mark.ensures.mark ∙ ap (λ (m : Moment). authenticator_mark m p kept) at) _ given

pub returns-clause-stays : goal.returns-clause-stays
returns-clause-stays c =
    let q = c.args.incoming.now in
    let p = c.args.presented in
    let kept = c.in_ok-reply.field-0.kept in
    let at : c.incoming.inside.at ≡ q.at = search rules in
    recorded_stays c.args.state.now q.at p c.in_ok-mark.mark kept (c.in_ok-mark.ensures.mark ∙ ap (λ (m : Moment). authenticator_mark m p kept) at)
    (subst (λ (v : TgsView). IfSome kept (λ k. is_beyond_clock_skew v.cache.floor q.at.sec p.authenticator.ctime ≡ false))
    c.tgs_view-view.ensures.view c.in_ok-reply.ensures.timely)
    (subst (λ (v : TgsView). IfSome kept (λ k. map.get v.cache.pairs (stamp_of p) ≡ None)) c.tgs_view-view.ensures.view c.in_ok-reply.ensures.new)
