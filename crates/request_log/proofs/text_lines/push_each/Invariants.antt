use Rattle.std.proofs.Common.{◌≡◌, length}
use Rattle.request_log.specs.Lines.{with_shown}
use Rattle.request_log.proofs.text_lines.push_each.Given as goal

abbrev pub invariant-loop-rest : goal.invariant-loop-rest
invariant-loop-rest l = with_shown l.text.items l.rest ≡ with_shown l.fn.text.items l.octets

abbrev pub decreases-loop-rest : goal.decreases-loop-rest
decreases-loop-rest l = length l.rest
