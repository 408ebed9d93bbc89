use Rattle.std.proofs.Common.{rules, ◌<◌, length, subst, sym}
use Rattle.std.specs.List.{All}
use Rattle.client_login.specs.Places.{IsKdc}
use Rattle.client_login.proofs.asking.ask_each.Goals as goal

pub ask_kdc-requires-clause-kdc : goal.ask_kdc-requires-clause-kdc
ask_kdc-requires-clause-kdc g c =
    let addresses = c.args.addresses.now in
    let below : c.loop-kdc.kdc-index < length addresses = search rules in
    let all : All (IsKdc g.X.Network.finds c.loop-kdc.kdcs.places.items) addresses =
    subst (λ ps. All (IsKdc g.X.Network.finds ps.items) addresses) (sym c.loop-kdc.invariant.0) c.requires.kdcs in
    all c.loop-kdc.kdc-index _ below
