use Rattle.kadm.proofs.checking.print_check.Goals as goal

pub returns-clause-read : goal.returns-clause-read
returns-clause-read g c = (c.in_ok-database.database, c.in_ok-database.ensures.read)
