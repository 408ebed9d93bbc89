use Rattle.framing.proofs.Cuttings.{has_cutting, has_one_cutting}
use Rattle.framing.proofs.laws.one_cutting.Goals as goal

pub returns-clause-cut : goal.returns-clause-cut
returns-clause-cut c = has_cutting

pub returns-clause-only : goal.returns-clause-only
returns-clause-only c = has_one_cutting
