use Rattle.kadm.proofs.ReadDatabases.{has_found}
use Rattle.kadm.proofs.linting.print_lint.Goals as goal

pub returns-clause-read : goal.returns-clause-read
returns-clause-read g c = has_found c.print_findings_of.result _ _ c.in_ok-database.database c.in_ok-database.ensures.read
