use Rattle.std.proofs.Common.{◌≡◌, Some, option_copied}
use Rattle.preauth.specs.Timestamp.{first_of}
use Rattle.preauth.proofs.timestamp.first_padata.Given as goal

abbrev pub invariant-loop-entry : goal.invariant-loop-entry
invariant-loop-entry l = first_of l.number (Some l.entry-iterator) ≡ first_of l.number (option_copied l.padata)
