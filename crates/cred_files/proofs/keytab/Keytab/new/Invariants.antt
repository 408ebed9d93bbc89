use Rattle.std.proofs.Common.{◌≡◌, take}
use Rattle.std.specs.List.{AllWithin}
use Rattle.cred_files.specs.Keytab.{HasRoom}
use Rattle.cred_files.proofs.keytab.Keytab.new.Given as goal

abbrev pub invariant-loop-entry : goal.invariant-loop-entry
invariant-loop-entry l = (l.copies.items ≡ take l.entry-index l.entries) × AllWithin HasRoom l.entries 0 l.entry-index
