use Rattle.std.proofs.Common.{ap, sym}
use Rattle.tgs_exchange.specs.Decision.{by_admission}
use Rattle.tgs_exchange.proofs.deciding.by_admission.Goals as goal

pub returns-in-Err : goal.returns-in-Err
returns-in-Err c = ap (λ admission. by_admission admission) (sym c.in-Err.is)
