use Rattle.std.specs.Prelude.{◌≡◌}
use Rattle.client_login.specs.Faults.{IsUnheard}
use Rattle.client_login.specs.Replies.{IsExchanged}
use Rattle.client_login.proofs.asking.ask_each.Given as goal

-- after the fault so far, other KDCs are tried
abbrev pub invariant-loop-kdc : goal.invariant-loop-kdc
invariant-loop-kdc g l =
    (l.kdcs.places ≡ l.fn.kdcs.places)
    × IsUnheard (IsExchanged g.X.Network.finds l.fn.kdcs.places.items g.X.Network.carries g.X.Network.answers) l.end.why l.end.kdc
