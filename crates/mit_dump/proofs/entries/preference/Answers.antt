use Rattle.std.proofs.Common.{rules, ◌∙◌, ◌<◌, ◌-◌, length, ap, sym, arith}
use Rattle.mit_dump.specs.Entries.{preference, with_first}
use Rattle.mit_dump.proofs.Lists.{none_left}
use Rattle.mit_dump.proofs.Rows.{preferred_here}
use Rattle.mit_dump.proofs.entries.preference.Goals as goal

pub loop-i-init : goal.loop-i-init
loop-i-init c = c.new-etypes.ensures.items ∙ sym (ap preference (none_left c.args.keys.now (length c.args.keys.now) (omega arith)))

pub loop-i-preserved : goal.loop-i-preserved
loop-i-preserved c =
    let lt : c.loop-i.i - 1 < length c.args.keys.now = search rules in
    preferred_here c.args.keys.now (c.loop-i.i - 1) c.loop-i.i c.index-keys-i.result c.loop-i.etypes.items _
    (omega (arith, c.loop-i-test.true)) c.index-keys-i.is lt c.loop-i.invariant
    (c.in_ok-put_first.ensures ∙ ap (λ e. with_first e c.loop-i.etypes.items) c.etype.ensures)
