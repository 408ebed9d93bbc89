use Rattle.std.proofs.Common.{rules, ◌≡◌}
use Rattle.std.specs.Prelude.{IsTrue, ◌↔◌}
use Rattle.cred_files.proofs.Names.{then_test, else_test}
use Rattle.kadm_changes.proofs.staging.is_entry_of.Goals as goal

pub returns-then-eq : goal.returns-then-eq
returns-then-eq c =
    let p : IsTrue c.eq.result ↔ (c.args.entry.now.realm ≡ c.args.service.now.realm.now) = search rules in
    then_test c.args.entry.now.realm c.args.service.now.realm.now c.args.entry.now.name.components c.args.service.now.who.now.components c.eq.result c.is_same.result c.if-eq.true p c.is_same.ensures

pub returns-else-eq : goal.returns-else-eq
returns-else-eq c =
    let p : IsTrue c.eq.result ↔ (c.args.entry.now.realm ≡ c.args.service.now.realm.now) = search rules in
    else_test c.args.entry.now.realm c.args.service.now.realm.now c.args.entry.now.name.components c.args.service.now.who.now.components c.eq.result c.if-eq.false p
