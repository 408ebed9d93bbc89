use Rattle.std.proofs.Common.{◌∙◌, subst}
use Rattle.std.specs.Prelude.{IfSome}
use Rattle.journal.specs.Finding.{MayBeReadOut}
use Rattle.journal.specs.Holding.{IsFound}
use Rattle.journal.proofs.Findings.{all_found, all_read}
use Rattle.journal.proofs.found_files.read_each.Goals as goal

pub returns-clause-found : goal.returns-clause-found
returns-clause-found g c =
    let newer = c.in_ok-newer.newer in
    let beside = c.in_ok-beside.beside in
    all_found c.in_ok-older.older newer beside (g.F.JournalFiles.world c.args.files.now) c.in_ok-older.ensures.found
    (subst (λ w. IfSome w (λ w. IsFound w.newer newer)) c.in_ok-older.ensures.world c.in_ok-newer.ensures.found)
    (subst (λ w. IfSome w (λ w. IsFound w.beside beside)) (c.in_ok-newer.ensures.world ∙ c.in_ok-older.ensures.world) c.in_ok-beside.ensures.found)

pub returns-clause-shown : goal.returns-clause-shown
returns-clause-shown g c =
    let newer = c.in_ok-newer.newer in
    let beside = c.in_ok-beside.beside in
    all_read c.in_ok-older.older newer beside (g.F.JournalFiles.world c.args.files.now) c.in_ok-older.ensures.shown
    (subst (λ w. IfSome w (λ w. MayBeReadOut w.newer newer)) c.in_ok-older.ensures.world c.in_ok-newer.ensures.shown)
    (subst (λ w. IfSome w (λ w. MayBeReadOut w.beside beside)) (c.in_ok-newer.ensures.world ∙ c.in_ok-older.ensures.world) c.in_ok-beside.ensures.shown)
