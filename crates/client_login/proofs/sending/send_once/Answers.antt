use Rattle.std.proofs.Common.{ℕ, List, subst, sym}
use Rattle.krb_fields.specs.declared.moment.Moment.{Moment}
use Rattle.client_login.specs.Draws.{drawn_confounder}
use Rattle.client_login.specs.Sending.{Spells}
use Rattle.client_login.proofs.sending.send_once.Goals as goal

pub ask-requires : goal.ask-requires
ask-requires g c =
    let spelled = subst (λ (octets : List ℕ). Spells c.args.request.now c.take_moment-at.result c.draw_confounder-confounder.result octets)
    (sym c.deref.ensures.value) c.in_ok-octets.ensures in
    let drawn = subst (λ (confounder : List ℕ). Spells c.args.request.now c.take_moment-at.result confounder c.deref.result.now)
    c.draw_confounder-confounder.ensures.value spelled in
    c.requires.carried c.deref.result.now
    (subst (λ (at : Moment). Spells c.args.request.now at (drawn_confounder (g.R.Rng.stream c.args.rng.now)) c.deref.result.now) c.take_moment-at.ensures.taken drawn)
