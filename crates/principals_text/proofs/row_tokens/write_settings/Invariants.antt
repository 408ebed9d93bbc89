use Rattle.std.proofs.Common.{take}
use Rattle.principals_text.specs.Tokens.{IsLonger, settings_tokens}
use Rattle.principals_text.proofs.row_tokens.write_settings.Given as goal

abbrev pub invariant-loop-setting : goal.invariant-loop-setting
invariant-loop-setting l = IsLonger l.initial.out l.out (settings_tokens (take l.setting-index l.settings))
