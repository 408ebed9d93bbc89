use Rattle.std.proofs.Common.{rules, ◌<◌, ◌-◌, List, length, sym, subst, arith}
use Rattle.kadm_changes.specs.Dumps.{AreRowsOf}
use Rattle.mit_dump.specs.declared.principal.DumpedPrincipal.{DumpedPrincipal}
use Rattle.kadm_changes.proofs.Moved.{none_left, row_here}
use Rattle.kadm_changes.proofs.dump_import.import_rows.Goals as goal

pub loop-i-init : goal.loop-i-init
loop-i-init g c =
    subst (λ (ps : List DumpedPrincipal). AreRowsOf c.args.realm.now c.args.stash.now ps c.new-rows.result.items)
    (sym (none_left c.args.found.now (length c.args.found.now) (omega arith))) c.new-rows.ensures.items

pub loop-i-preserved : goal.loop-i-preserved
loop-i-preserved g c =
    let lt : c.loop-i.i - 1 < length c.args.found.now = search rules in
    row_here c.args.realm.now c.args.stash.now c.args.found.now (c.loop-i.i - 1) c.loop-i.i c.index-found-i.result _ _
    (omega (arith, c.loop-i-test.true)) c.index-found-i.is lt c.loop-i.invariant c.in_ok-push_row.ensures
