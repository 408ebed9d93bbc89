use Rattle.std.proofs.Common.{rules, ◌≡◌, ◌∷◌, false}
use Rattle.principal_rows.specs.Versions.{are_versions}
use Rattle.principal_keys.proofs.KeytabFaults.{empty_where}
use Rattle.principal_keys.proofs.keytabs.keytab_versions.Goals as goal

pub returns-in-None-clause-empty : goal.returns-in-None-clause-empty
returns-in-None-clause-empty c is =
    let s = c.args.of.now.realm.now ∷ c.args.of.now.who.now.components in
    let fails : are_versions c.in_ok-versions.versions.items ≡ false = search rules in
    empty_where c.args.of.now.keytab.now s c.args.etypes.now c.in_ok-versions.versions.items c.in_ok-versions.ensures.taken c.in_ok-versions.ensures.ordered fails
