use Rattle.std.proofs.Common.{rules, ◌≡◌, subst, sym}
use Rattle.client_login.specs.Places.{IsKdc}
use Rattle.client_login.proofs.asking.ask_kdc.Goals as goal

pub read_reply-requires-in-Ok-exchange : goal.read_reply-requires-in-Ok-exchange
read_reply-requires-in-Ok-exchange g c =
    let same : c.if-eq.kdcs.places ≡ c.args.kdcs.now.places = search rules in
    let asked : IsKdc g.X.Network.finds c.if-eq.kdcs.places.items c.args.kdc =
    subst (λ ps. IsKdc g.X.Network.finds ps.items c.args.kdc) (sym same) c.requires.kdc in
    record { request = c.args.request.now; answered = record { asked = asked; carried = c.requires.carried; answered = c.in-Ok-exchange.ensures } }
