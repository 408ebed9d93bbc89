use Rattle.std.proofs.Common.{◌≡◌, ◌++◌, drop, flat_map}
use Rattle.kadm_changes.specs.KeytabFolders.{file_octet}
use Rattle.kadm_changes.proofs.keytab_folder.push_file_name.Given as goal

abbrev pub invariant-loop-octet : goal.invariant-loop-octet
invariant-loop-octet l =
    l.path.items ++ flat_map file_octet (drop l.octet-index l.text) ≡ l.fn.path.items ++ flat_map file_octet l.text
