use Rattle.std.proofs.Common.{rules}
use Rattle.std.specs.List.{Contains}
use Rattle.client_login.proofs.Within.{contained, known_kdc}
use Rattle.client_login.proofs.asking.known_first.Goals as goal

pub returns-in-Some-known : goal.returns-in-Some-known
returns-in-Some-known g c =
    let listed : Contains c.args.kdcs.now.places.items c.place-item.result = search (contained, rules) in
    known_kdc g.X.Network.finds c.args.kdcs.now.places.items c.place-item.result c.in-Some-known.kdc listed c.in-Some-known.ensures.known c.in-Some-known.ensures.one
