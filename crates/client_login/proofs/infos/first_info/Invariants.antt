use Rattle.std.proofs.Common.{◌≡◌, Some, option_copied}
use Rattle.client_login.specs.Infos.{first_info}
use Rattle.client_login.proofs.infos.first_info.Given as goal

abbrev pub invariant-loop-entry : goal.invariant-loop-entry
invariant-loop-entry l = first_info (Some l.entry-iterator) ≡ first_info (option_copied l.padata)
