use Rattle.std.proofs.Common.{◌≡◌, ◌++◌, map, take}
use Rattle.kadm_changes.specs.Keytabs.{entry_of}
use Rattle.kadm_changes.proofs.keytab_text.push_entries.Given as goal

abbrev pub invariant-loop-key : goal.invariant-loop-key
invariant-loop-key l = l.entries.items ≡ l.fn.entries.items ++ map (entry_of l.realm l.name l.version.number) (take l.key-index l.keys)
