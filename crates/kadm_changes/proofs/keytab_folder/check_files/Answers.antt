use Rattle.std.proofs.Common.{◌∙◌, ◌+◌, refl, string_bytes, subst}
use Rattle.kadm_changes.specs.Keytabs.{IsFreePath}
use Rattle.kadm_changes.proofs.Written.{all_end, all_on}
use Rattle.kadm_changes.proofs.keytab_folder.check_files.Goals as goal

pub loop-file-preserved : goal.loop-file-preserved
loop-file-preserved g c =
    let free = subst (λ world. IsFreePath world (string_bytes c.file-item.result.path)) c.loop-file.invariant.0
    (subst (λ path. IsFreePath (g.T.Store.world c.loop-file.store) path) c.deref.ensures c.in_default.ensures.free) in (
      c.in_default.ensures.unchanged ∙ c.loop-file.invariant.0,
      all_on (λ file. IsFreePath (g.T.Store.world c.args.store.now) (string_bytes file.path)) c.args.files.now c.loop-file.file-index (c.loop-file.file-index + 1)
          c.file-item.result refl c.loop-file-test.true c.file-item.is c.loop-file.invariant.1 free,
    )

pub returns-clause-free : goal.returns-clause-free
returns-clause-free g c =
    all_end (λ file. IsFreePath (g.T.Store.world c.args.store.now) (string_bytes file.path)) c.args.files.now c.loop-file.file-index c.loop-file-test.false c.loop-file.invariant.1
