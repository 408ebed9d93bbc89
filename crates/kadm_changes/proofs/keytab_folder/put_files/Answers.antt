use Rattle.std.proofs.Common.{rules, ◌≡◌, ◌∙◌, ◌+◌, ◌++◌, List, drop, option_map, refl, sym, take}
use Rattle.std.proofs.lemmas.List.{take-append-drop}
use Rattle.kadm_changes.specs.KeytabFolders.{with_files}
use Rattle.kadm_changes.specs.declared.keytab_folder.KeytabFile.{KeytabFile}
use Rattle.kadm_changes.proofs.Written.{written_on}
use Rattle.kadm_changes.proofs.keytab_folder.put_files.Goals as goal

pub returns-in_err-one-clause-begun : goal.returns-in_err-one-clause-begun
returns-in_err-one-clause-begun g c =
    let begun : (written : List KeytabFile) × (left : List KeytabFile) × (c.args.files.now ≡ written ++ left)
    × (g.T.Store.world c.put_file.new.store ≡ option_map (with_files written) (g.T.Store.world c.args.store.now))
    = (
      take c.loop-file.file-index c.args.files.now,
      drop c.loop-file.file-index c.args.files.now,
      sym (take-append-drop c.loop-file.file-index c.args.files.now),
      c.in_err-one.ensures.unchanged ∙ c.loop-file.invariant,
    ) in
    search rules

pub loop-file-preserved : goal.loop-file-preserved
loop-file-preserved g c =
    written_on c.args.files.now c.loop-file.file-index (c.loop-file.file-index + 1) c.file-item.result (g.T.Store.world c.args.store.now)
    (g.T.Store.world c.loop-file.store) _ refl c.loop-file-test.true c.file-item.is c.loop-file.invariant c.in_ok-one.ensures.written
