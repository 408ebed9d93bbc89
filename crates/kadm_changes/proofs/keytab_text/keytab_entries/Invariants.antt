use Rattle.std.proofs.Common.{◌≡◌, ◌++◌, drop, flat_map}
use Rattle.kadm_changes.specs.Keytabs.{entries_of}
use Rattle.kadm_changes.proofs.keytab_text.keytab_entries.Given as goal

abbrev pub invariant-loop-version : goal.invariant-loop-version
invariant-loop-version l =
    l.entries.items ++ flat_map (entries_of l.realm l.name) (drop l.version-index l.versions) ≡ flat_map (entries_of l.realm l.name) l.versions
