use Rattle.std.proofs.Common.{◌∷◌}
use Rattle.principal_keys.proofs.KeytabFaults.{IsOrderedTo}
use Rattle.principal_keys.proofs.KeytabVersions.{IsTakenTo, room}
use Rattle.principal_keys.proofs.keytabs.taken_versions.Given as goal

abbrev pub invariant-loop-number : goal.invariant-loop-number
invariant-loop-number l =
    IsTakenTo l.of.keytab.now (l.of.realm.now ∷ l.of.who.now.components) l.etypes l.bound l.versions.items × IsOrderedTo l.bound l.versions.items

abbrev pub decreases-loop-number : goal.decreases-loop-number
decreases-loop-number l = room l.bound
