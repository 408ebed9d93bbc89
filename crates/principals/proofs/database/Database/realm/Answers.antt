use Rattle.std.proofs.Common.{rules}
use Rattle.krb_fields.specs.NameLimitsLaws.{component_facts}
use Rattle.principals.specs.Database.{IsDatabase}
use Rattle.principals.proofs.database.Database.realm.Goals as goal

pub returns-clause-short : goal.returns-clause-short
returns-clause-short c = let valid : IsDatabase c.args.self.now = search rules in (component_facts c.args.self.now.realm valid.realm_fits).1
