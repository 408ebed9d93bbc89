use Rattle.std.proofs.Common.{rules, ◌<◌, ◌-◌, List, length, sym, subst, arith}
use Rattle.mit_dump.specs.Entries.{ArePushed}
use Rattle.mit_dump.specs.declared.stored_key.StoredKey.{StoredKey}
use Rattle.mit_dump.proofs.Lists.{none_left}
use Rattle.mit_dump.proofs.Rows.{pushed_here}
use Rattle.mit_dump.proofs.entries.open_entries.Goals as goal

pub loop-i-init : goal.loop-i-init
loop-i-init c =
    subst (λ (ks : List StoredKey). ArePushed c.args.principal.now c.args.master.now ks c.new-entries.result.items)
    (sym (none_left c.args.keys.now (length c.args.keys.now) (omega arith))) c.new-entries.ensures.items

pub loop-i-preserved : goal.loop-i-preserved
loop-i-preserved c =
    let lt : c.loop-i.i - 1 < length c.args.keys.now = search rules in
    pushed_here c.args.principal.now c.args.master.now c.args.keys.now (c.loop-i.i - 1) c.loop-i.i c.index-keys-i.result _ _
    (omega (arith, c.loop-i-test.true)) c.index-keys-i.is lt c.loop-i.invariant c.in_ok-push_entry.ensures
