use Rattle.std.proofs.Common.{inl, inr, refl, arith}
use Rattle.kdcd.proofs.Lines.{line_is_taken, line_is_beyond, input_is_ended}
use Rattle.kdcd.proofs.input.Input.next_line.Goals.{then-self-gt-MAX_INPUT-via-then-self-gt-MAX_INPUT, then-self-gt-MAX_INPUT-via-else-self-gt-MAX_INPUT+then-len-gt-MAX_LINE}
use Rattle.kdcd.proofs.input.Input.next_line.Goals as goal

pub returns-then-taken-eq0-clause-end : goal.returns-then-taken-eq0-clause-end
returns-then-taken-eq0-clause-end g c =
    λ _. input_is_ended _ _ c.args.self.now.taken c.min-most.result c.in_ok-taken.taken c.take_line.new.line.items _ (omega arith) c.min-most.ensures
    c.in_ok-taken.ensures.line c.in_ok-taken.ensures.rest c.in_ok-taken.ensures.count refl c.if-taken-eq0.true

pub returns-then-self-gt-MAX_INPUT-clause-fault : goal.returns-then-self-gt-MAX_INPUT-clause-fault
returns-then-self-gt-MAX_INPUT-clause-fault g c =
    λ _. line_is_beyond _ _ c.args.self.now.taken c.min-most.result c.in_ok-taken.taken c.take_line.new.line.items c.strip_feed.new.line.items (omega arith)
    c.min-most.ensures c.in_ok-taken.ensures.line c.in_ok-taken.ensures.rest c.in_ok-taken.ensures.count c.strip_feed.ensures (omega arith)
    (elim c.then-self-gt-MAX_INPUT.branch [
      | then-self-gt-MAX_INPUT-via-then-self-gt-MAX_INPUT w ↦ inl (omega arith)
      | then-self-gt-MAX_INPUT-via-else-self-gt-MAX_INPUT+then-len-gt-MAX_LINE w ↦ inr (omega arith)
    ])

pub returns-clause-line : goal.returns-clause-line
returns-clause-line g c =
    λ _. line_is_taken _ _ c.args.self.now.taken c.min-most.result c.in_ok-taken.taken c.take_line.new.line.items c.strip_feed.new.line.items (omega arith)
    c.min-most.ensures c.in_ok-taken.ensures.line c.in_ok-taken.ensures.rest c.in_ok-taken.ensures.count c.strip_feed.ensures (omega arith) (omega arith)
    (omega arith)
