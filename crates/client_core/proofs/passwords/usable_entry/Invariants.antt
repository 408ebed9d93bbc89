use Rattle.std.proofs.Common.{◌≡◌, drop}
use Rattle.client_core.specs.Passwords.{entry_of}
use Rattle.client_core.proofs.passwords.usable_entry.Given as goal

abbrev pub invariant-loop-entry : goal.invariant-loop-entry
invariant-loop-entry l = entry_of (drop l.entry-index l.info) ≡ entry_of l.info
