use Rattle.std.proofs.Common.{rules, ◌≡◌, option_copied}
use Rattle.std.specs.FinMap as map
use Rattle.principals.specs.Database.{IsDatabase}
use Rattle.principals.proofs.Rows.{found_is_row}
use Rattle.principals.proofs.database.Database.get_ref.Goals as goal

pub returns-clause-valid : goal.returns-clause-valid
returns-clause-valid c =
    let valid : IsDatabase c.args.self.now = search rules in
    let found : option_copied c.find_row.result ≡ map.get c.args.self.now.rows c.args.name_ref.now.components = search rules in
    found_is_row c.args.self.now c.args.name_ref.now.components c.find_row.result valid found
