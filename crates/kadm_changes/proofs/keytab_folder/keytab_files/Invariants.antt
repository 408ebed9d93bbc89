use Rattle.std.proofs.Common.{◌≡◌, All, map, string_bytes, take}
use Rattle.kadm_changes.specs.KeytabFolders.{IsKeytabFile, path_in}
use Rattle.kadm_changes.proofs.keytab_folder.keytab_files.Given as goal

abbrev pub invariant-loop-name : goal.invariant-loop-name
invariant-loop-name g l =
    (g.T.Store.world l.store ≡ g.T.Store.world l.fn.store)
    × All (IsKeytabFile l.to.folder.now l.database) l.files.items
    × (map (λ file. string_bytes file.path) l.files.items
    ≡ map (path_in l.to.folder.now) (map (λ name. name.components) (take l.name-index l.name-items)))
