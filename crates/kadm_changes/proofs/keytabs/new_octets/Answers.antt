use Rattle.std.proofs.Common.{option_map}
use Rattle.kadm_changes.proofs.Doing.{keytab_for}
use Rattle.kadm_changes.proofs.keytabs.new_octets.Goals as goal

pub returns-clause-holds : goal.returns-clause-holds
returns-clause-holds g c =
    keytab_for _ _ c.args.to c.appends.result c.args.name.now c.args.database.now (option_map (λ octets. octets.items) c.in_ok-old.old) c.in_ok-new.new.items
    c.in_ok-behind.field-0.items c.in_ok-old.ensures.unchanged c.appends.ensures c.in_ok-old.ensures.old c.in_ok-new.ensures.holds c.in_ok-behind.ensures
