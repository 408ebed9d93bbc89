use Rattle.std.proofs.Common.{◌≡◌, option_map, take}
use Rattle.kadm_changes.specs.KeytabFolders.{with_files}
use Rattle.kadm_changes.proofs.keytab_folder.put_files.Given as goal

-- the files so far are written
abbrev pub invariant-loop-file : goal.invariant-loop-file
invariant-loop-file g l =
    g.T.Store.world l.store ≡ option_map (with_files (take l.file-index l.files)) (g.T.Store.world l.fn.store)
