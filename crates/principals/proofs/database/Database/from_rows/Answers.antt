use Rattle.std.proofs.Common.{rules, IsTrue}
use Rattle.std.specs.FinMap.{contains_key}
use Rattle.krb_fields.specs.Granting.{tgs_principal}
use Rattle.principals.specs.NamesLaws.{AllNamesFit}
use Rattle.principals.proofs.Rows.{is_database-read}
use Rattle.principals.proofs.database.Database.from_rows.Goals as goal

pub invariant_of-result : goal.invariant_of-result
unfolding AllNamesFit
invariant_of-result c =
    let grants : IsTrue (contains_key c.args.rows (tgs_principal c.args.realm)) = search rules in
    is_database-read c.args.realm c.args.rows c.requires.realm c.requires.names c.requires.rows grants
