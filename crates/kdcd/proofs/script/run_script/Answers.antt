use Rattle.kdcd.proofs.Bounded.{prints_bounded}
use Rattle.kdcd.proofs.script.run_script.Goals as goal

pub returns-clause-bounded : goal.returns-clause-bounded
returns-clause-bounded g c = λ other. prints_bounded _ _ _ _ (c.run_input.ensures.run other)
