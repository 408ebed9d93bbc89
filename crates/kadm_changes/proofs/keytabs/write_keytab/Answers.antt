use Rattle.std.proofs.Common.{sym, subst}
use Rattle.kadm_changes.specs.Keytabs.{IsKeytabFor}
use Rattle.kadm_changes.proofs.Doing.{wrote_keytab}
use Rattle.kadm_changes.proofs.keytabs.write_keytab.Goals as goal

pub returns-clause-done : goal.returns-clause-done
returns-clause-done g c =
    wrote_keytab c.put_octets.result _ _ _ _ _ _ _ c.args.to c.in_ok-name.name.components c.in_ok-database.database c.deref.result.now
    c.in_ok-lock_database.ensures.unchanged c.in_ok-database.ensures.unchanged c.in_ok-check_path.ensures.unchanged c.in_ok-octets.ensures.unchanged
    c.in_ok-name.ensures.ok c.in_ok-database.ensures.read c.in_ok-check_path.ensures.free
    (subst (λ octets. IsKeytabFor (g.T.Store.world c.check_path.new.store) c.args.to c.in_ok-name.name.components c.in_ok-database.database octets) (sym c.deref.ensures.value) c.in_ok-octets.ensures.holds)
    c.put_octets.ensures.written
