use Rattle.std.proofs.Common.{◌≡◌, All, string_bytes, take}
use Rattle.kadm_changes.specs.Keytabs.{IsFreePath}
use Rattle.kadm_changes.proofs.keytab_folder.check_files.Given as goal

abbrev pub invariant-loop-file : goal.invariant-loop-file
invariant-loop-file g l =
    (g.T.Store.world l.store ≡ g.T.Store.world l.fn.store)
    × All (λ file. IsFreePath (g.T.Store.world l.fn.store) (string_bytes file.path)) (take l.file-index l.files)
