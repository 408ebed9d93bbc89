use Rattle.std.proofs.Common.{true, false, subst, sym}
use Rattle.std.specs.Prelude.{IfSome}
use Rattle.journal.specs.Finding.{AreFound, AreReadOut}
use Rattle.journal.specs.World.{Finishes, Leaves}
use Rattle.journal.proofs.Findings.{finds_finished, may_finish, reads_finished}
use Rattle.journal.proofs.found_files.read_files.Goals as goal

pub returns-clause-found : goal.returns-clause-found
returns-clause-found g c =
    let world = g.F.JournalFiles.world in
    subst (λ f. IfSome (world c.finish.new.self) (AreFound f)) (sym c.finished.ensures)
    (finds_finished c.in_ok-found.found (world c.read_each.new.files) (world c.finish.new.self)
    (subst (λ w. IfSome w (AreFound c.in_ok-found.found)) (sym c.in_ok-found.ensures.world) c.in_ok-found.ensures.found) c.in_ok-finish.ensures)

pub returns-clause-shown : goal.returns-clause-shown
returns-clause-shown g c =
    let world = g.F.JournalFiles.world in
    subst (λ f. IfSome (world c.finish.new.self) (AreReadOut f)) (sym c.finished.ensures)
    (reads_finished c.in_ok-found.found (world c.read_each.new.files) (world c.finish.new.self)
    (subst (λ w. IfSome w (AreReadOut c.in_ok-found.found)) (sym c.in_ok-found.ensures.world) c.in_ok-found.ensures.shown) c.in_ok-finish.ensures)

pub returns-clause-finished : goal.returns-clause-finished
returns-clause-finished g c =
    let world = g.F.JournalFiles.world in
    may_finish c.in_ok-found.found true (world c.args.files.now) (world c.finish.new.self) c.in_ok-found.ensures.found (sym c.if-not-is_cut.ensures)
    (subst (λ w. Leaves (Finishes true) w (world c.finish.new.self)) c.in_ok-found.ensures.world c.in_ok-finish.ensures)

pub returns-in_err-finish-clause-finished : goal.returns-in_err-finish-clause-finished
returns-in_err-finish-clause-finished g c =
    let world = g.F.JournalFiles.world in
    may_finish c.in_ok-found.found false (world c.args.files.now) (world c.finish.new.self) c.in_ok-found.ensures.found (sym c.if-not-is_cut.ensures)
    (subst (λ w. Leaves (Finishes false) w (world c.finish.new.self)) c.in_ok-found.ensures.world c.in_err-finish.ensures)
