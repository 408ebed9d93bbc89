use Rattle.std.proofs.Common.{take}
use Rattle.principals_text.specs.Taken.{AreTaken}
use Rattle.principals_text.proofs.row_reading.takes_settings.Given as goal

abbrev pub invariant-loop-setting : goal.invariant-loop-setting
invariant-loop-setting l = AreTaken (take l.setting-index l.settings) l.initial.policy l.initial.reader l.policy l.reader
