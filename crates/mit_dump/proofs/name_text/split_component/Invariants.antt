use Rattle.std.proofs.Common.{length}
use Rattle.mit_dump.proofs.name_text.split_component.Given as goal

abbrev pub decreases-loop-rest : goal.decreases-loop-rest
decreases-loop-rest l = length l.rest
