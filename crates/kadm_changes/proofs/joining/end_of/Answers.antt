use Rattle.kadm_changes.proofs.joining.end_of.Goals as goal

pub returns-clause-end : goal.returns-clause-end
returns-clause-end c = λ end is. c.in_default.ensures.none end (c.loop-behind.invariant.0 end is)
