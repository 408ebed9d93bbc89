use Rattle.std.proofs.Common.{length}
use Rattle.kadm.proofs.settings.invalid_setting.Given as goal

abbrev pub decreases-loop-rest : goal.decreases-loop-rest
decreases-loop-rest l = length l.rest
