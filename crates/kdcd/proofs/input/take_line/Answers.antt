use Rattle.std.proofs.Common.{◌+◌, arith}
use Rattle.kdcd.proofs.Taken.{taken_rest, taken_to_end, taken_most, taken_octet, taken_count, taken_no_feed, taken_none, taken_feed}
use Rattle.kdcd.proofs.input.take_line.Goals as goal

pub returns-in_default-clause-line : goal.returns-in_default-clause-line
returns-in_default-clause-line g c =
    taken_to_end c.args.most _ _ c.loop-taken.line.items (taken_none _ _ _ c.loop-taken.line.items _ c.loop-taken.invariant.read c.in_ok-octet.ensures.octet c.in_default.is)
    c.loop-taken.invariant.no_feed (c.in_ok-octet.ensures.end c.in_default.is) (omega arith)

pub returns-in_default-clause-rest : goal.returns-in_default-clause-rest
returns-in_default-clause-rest g c =
    taken_rest _ _ c.loop-taken.line.items c.loop-taken.taken (taken_none _ _ _ c.loop-taken.line.items _ c.loop-taken.invariant.read c.in_ok-octet.ensures.octet c.in_default.is)
    c.loop-taken.invariant.count

pub returns-then-octet-eq10-clause-line : goal.returns-then-octet-eq10-clause-line
returns-then-octet-eq10-clause-line g c =
    let grown = c.in_ok-push.ensures.items in
    taken_feed c.args.most _ _ c.loop-taken.line.items c.push.new.self.items c.in-Some.octet
    (taken_octet _ _ _ c.loop-taken.line.items c.push.new.self.items _ c.in-Some.octet c.loop-taken.invariant.read c.in_ok-octet.ensures.octet c.in-Some.is grown)
    grown c.if-octet-eq10.true c.loop-taken.invariant.no_feed (omega arith)

pub returns-then-octet-eq10-clause-rest : goal.returns-then-octet-eq10-clause-rest
returns-then-octet-eq10-clause-rest g c =
    let grown = c.in_ok-push.ensures.items in
    taken_rest _ _ c.push.new.self.items (c.loop-taken.taken + 1)
    (taken_octet _ _ _ c.loop-taken.line.items c.push.new.self.items _ c.in-Some.octet c.loop-taken.invariant.read c.in_ok-octet.ensures.octet c.in-Some.is grown)
    (taken_count c.loop-taken.line.items c.push.new.self.items c.in-Some.octet c.loop-taken.taken grown c.loop-taken.invariant.count)

pub loop-taken-preserved : goal.loop-taken-preserved
loop-taken-preserved g c =
    let grown = c.in_ok-push.ensures.items in
    record {
      read = taken_octet _ _ _ c.loop-taken.line.items c.push.new.self.items _ c.in-Some.octet c.loop-taken.invariant.read c.in_ok-octet.ensures.octet c.in-Some.is grown;
      no_feed = taken_no_feed c.loop-taken.line.items c.push.new.self.items c.in-Some.octet grown c.loop-taken.invariant.no_feed c.if-octet-eq10.false;
      count = taken_count c.loop-taken.line.items c.push.new.self.items c.in-Some.octet c.loop-taken.taken grown c.loop-taken.invariant.count;
    }

pub returns-clause-line : goal.returns-clause-line
returns-clause-line g c = taken_most c.args.most _ _ c.loop-taken.line.items c.loop-taken.invariant.read c.loop-taken.invariant.no_feed (omega arith)

pub returns-clause-rest : goal.returns-clause-rest
returns-clause-rest g c = taken_rest _ _ c.loop-taken.line.items c.args.most c.loop-taken.invariant.read (omega arith)
