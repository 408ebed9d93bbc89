use Rattle.std.proofs.Common.{arith, subst, sym}
use Rattle.mit_dump.specs.Fields.{texts}
use Rattle.mit_dump.proofs.Lines.{FoundFrom, all_read, from_first, line_read}
use Rattle.mit_dump.proofs.dump.read_body.Goals as goal

pub loop-line-init : goal.loop-line-init
loop-line-init c =
    subst (FoundFrom (texts c.args.lines.now) (texts c.args.lines.now)) (sym c.new-found.ensures.items) (from_first (texts c.args.lines.now))

pub loop-line-preserved : goal.loop-line-preserved
loop-line-preserved c =
    line_read (texts c.args.lines.now) c.args.lines.now c.loop-line.line-index _ c.loop-line.found.items c.push_numbered.new.found.items
    c.loop-line-test.true c.loop-line.invariant c.in_ok-push_numbered.ensures

pub returns : goal.returns
returns c =
    all_read (texts c.args.lines.now) c.args.lines.now c.loop-line.line-index c.loop-line.found.items (omega (arith, c.loop-line-test.false)) c.loop-line.invariant
