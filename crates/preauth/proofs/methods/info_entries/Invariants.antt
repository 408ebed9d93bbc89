use Rattle.std.proofs.Common.{◌≡◌, ◌++◌, map, drop}
use Rattle.preauth.specs.MethodData.{info_entry}
use Rattle.preauth.proofs.methods.info_entries.Given as goal

abbrev pub invariant-loop-etype : goal.invariant-loop-etype
invariant-loop-etype l = l.entries ++ map (info_entry l.salt) (drop l.etype-index l.types) ≡ map (info_entry l.salt) l.types
