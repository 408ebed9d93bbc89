use Rattle.std.specs.List.{All, Contains}
use Rattle.client_login.proofs.asking.other_than.Given as goal

abbrev pub invariant-loop-address : goal.invariant-loop-address
invariant-loop-address l = All (Contains l.fn.addresses) l.others.items
