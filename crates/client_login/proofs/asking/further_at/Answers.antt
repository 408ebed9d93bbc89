use Rattle.std.proofs.Common.{subst}
use Rattle.std.specs.List.{All, Contains}
use Rattle.client_login.proofs.Within.{others_at}
use Rattle.client_login.proofs.asking.further_at.Goals as goal

pub returns-clause-kdcs : goal.returns-clause-kdcs
returns-clause-kdcs g c =
    let further = c.in_ok-further.further.items in
    others_at g.X.Network.finds c.kdc_addresses.new.kdcs.places.items c.in_ok-addresses.addresses.items further c.in_ok-addresses.ensures.kdcs
    (subst (λ addresses. All (Contains addresses) further) c.deref.ensures.value c.in_ok-further.ensures)
