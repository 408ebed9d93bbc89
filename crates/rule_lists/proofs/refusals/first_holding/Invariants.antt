use Rattle.std.proofs.Common.{◌≡◌, drop}
use Rattle.rule_lists.specs.Refusals.{first_holding}
use Rattle.rule_lists.proofs.refusals.first_holding.Given as goal

-- the conditions so far don't hold
abbrev pub invariant-loop-holds : goal.invariant-loop-holds
invariant-loop-holds g l = first_holding l.rules ≡ first_holding (drop l.holds-index l.rules)
