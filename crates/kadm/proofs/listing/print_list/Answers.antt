use Rattle.kadm.proofs.listing.print_list.Goals as goal

pub returns-clause-read : goal.returns-clause-read
returns-clause-read g c = (c.in_ok-database.database, c.in_ok-database.ensures.read)
