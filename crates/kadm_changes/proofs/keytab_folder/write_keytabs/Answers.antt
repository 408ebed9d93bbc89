use Rattle.kadm_changes.proofs.Written.{wrote}
use Rattle.kadm_changes.proofs.keytab_folder.write_keytabs.Goals as goal

pub returns-clause-wrote : goal.returns-clause-wrote
returns-clause-wrote g c =
    wrote c.put_files.result _ _ _ _ _ _ _ c.args.to c.in_ok-database.database c.in_ok-files.files.items c.deref.result.now c.deref-2.result.now
    c.in_ok-lock_database.ensures.unchanged c.in_ok-database.ensures.unchanged c.in_ok-files.ensures.unchanged c.in_ok-check_files.ensures.unchanged
    c.deref.ensures.value c.deref-2.ensures.value c.in_ok-database.ensures.read c.in_ok-files.ensures.made c.in_ok-files.ensures.fit c.in_ok-check_files.ensures.free
    c.put_files.ensures.done c.put_files.ensures.begun
