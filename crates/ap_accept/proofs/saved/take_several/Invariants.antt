use Rattle.std.proofs.Common.{◌-◌}
use Rattle.cred_files.specs.Form.{several}
use Rattle.cred_files.proofs.Loops.{Left}
use Rattle.ap_accept.proofs.saved.take_several.Given as goal

abbrev pub invariant-loop : goal.invariant-loop
invariant-loop g l = Left g.T.Saved.at l.values.items (l.count - l.counter) l.reader (several g.T.Saved.at l.count l.fn.reader)
