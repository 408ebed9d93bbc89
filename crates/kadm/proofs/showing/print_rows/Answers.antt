use Rattle.std.proofs.Common.{Some, None, ap, subst, sym}
use Rattle.kadm_changes.specs.Texts.{path_of, texts}
use Rattle.kadm.specs.Printed.{AreThere, HasRow}
use Rattle.std.specs.Prelude.{All}
use Rattle.kadm.proofs.ReadDatabases.{has_shown}
use Rattle.kadm.proofs.showing.print_rows.Goals as goal

pub returns-in-Some-clause-read : goal.returns-in-Some-clause-read
returns-in-Some-clause-read g c =
    has_shown c.print_like.result _ _ (path_of c.args.show.like) (texts c.args.target.now.names.items) c.in_ok-database.database c.in_ok-database.ensures.read
    (subst (λ like. AreThere (path_of like) (texts c.args.target.now.names.items) c.in_ok-database.database) (sym c.in-Some.is) tt)

pub returns-clause-read : goal.returns-clause-read
returns-clause-read g c =
    has_shown c.print_named.result _ _ (path_of c.args.show.like) (texts c.args.target.now.names.items) c.in_ok-database.database c.in_ok-database.ensures.read
    (subst (λ like. AreThere (path_of like) (texts c.args.target.now.names.items) c.in_ok-database.database) (sym c.in-None.is)
    (subst (λ names. All (HasRow c.in_ok-database.database) (texts names)) c.deref.ensures.value c.in_ok-check_rows-in-None.ensures))
