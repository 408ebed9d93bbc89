use Rattle.kadm_changes.specs.Texts.{texts}
use Rattle.kadm.proofs.ReadDatabases.{lint_printed, list_printed, show_printed}
use Rattle.kadm.proofs.printing.run_print.Goals as goal

pub returns-in_ok-print_list-in-List-clause-read : goal.returns-in_ok-print_list-in-List-clause-read
returns-in_ok-print_list-in-List-clause-read g c =
    list_printed (g.T.Store.world c.args.store.now) c.args.target.now.db.now (texts c.args.target.now.names.items) c.in-List.list c.args.print c.in-List.is
    c.in_ok-print_list-in-List.ensures.read

pub returns-in_ok-found-in-Lint-clause-read : goal.returns-in_ok-found-in-Lint-clause-read
returns-in_ok-found-in-Lint-clause-read g c =
    lint_printed (g.T.Store.world c.args.store.now) c.args.target.now.db.now (texts c.args.target.now.names.items) c.in-Lint.lint c.args.print c.in-Lint.is
    c.in_ok-found-in-Lint.ensures.read

pub returns-in_ok-print_rows-in-Show-clause-read : goal.returns-in_ok-print_rows-in-Show-clause-read
returns-in_ok-print_rows-in-Show-clause-read g c =
    show_printed (g.T.Store.world c.args.store.now) c.args.target.now.db.now (texts c.args.target.now.names.items) c.in-Show.show c.args.print c.in-Show.is
    c.in_ok-print_rows-in-Show.ensures.read
