use Rattle.std.proofs.Common.{◌≡◌, ◌++◌, flat_map, drop, Some}
use Rattle.std.specs.List.{AllWithin}
use Rattle.cred_files.specs.Keytab.{IsPart, part_text}
use Rattle.cred_files.proofs.keytab.put_entries.Given as goal

abbrev pub invariant-loop-entry : goal.invariant-loop-entry
invariant-loop-entry l =
    (l.out.items ++ flat_map part_text (drop l.entry-index l.entries) ≡ l.fn.out.items ++ flat_map part_text l.entries) × AllWithin (λ e. IsPart (Some e) (part_text e)) l.entries 0 l.entry-index
