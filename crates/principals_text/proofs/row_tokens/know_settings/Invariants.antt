use Rattle.std.specs.List.{AllWithin}
use Rattle.principals_text.specs.ReadBack.{IsFitting}
use Rattle.principals_text.proofs.row_tokens.know_settings.Given as goal

abbrev pub invariant-loop-setting : goal.invariant-loop-setting
invariant-loop-setting l = AllWithin IsFitting l.settings 0 l.setting-index
