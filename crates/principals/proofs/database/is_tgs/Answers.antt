use Rattle.std.proofs.Common.{rules, ◌≡◌, ◌≢◌, ◌&&◌, codes, sym, length, get_or, bytes_eq}
use Rattle.std.specs.Ordering.{eq_by_cmp}
use Rattle.krb_fields.specs.Name.{name_cmp}
use Rattle.krb_fields.specs.Granting.{tgs_principal}
use Rattle.principals.proofs.Tgs.{tgs_pair, tgs_other}
use Rattle.principals.proofs.database.is_tgs.Goals as goal

pub returns-then-eq : goal.returns-then-eq
returns-then-eq c =
    let two : length c.args.name.now.components ≡ 2 = search rules in
    let service : c.service-item.result ≡ get_or c.args.name.now.components 0 c.service-item.result = search rules in
    let instance : c.instance-item.result ≡ get_or c.args.name.now.components 1 c.instance-item.result = search rules in
    let pair : eq_by_cmp name_cmp c.args.name.now.components (tgs_principal c.args.realm.now) ≡ (bytes_eq c.service-item.result (codes "krbtgt") && bytes_eq c.instance-item.result c.args.realm.now) =
    tgs_pair c.args.name.now.components c.service-item.result c.instance-item.result c.args.realm.now two service instance in
    search rules

pub returns-else-eq : goal.returns-else-eq
returns-else-eq c =
    let two : length c.args.name.now.components ≡ 2 = search rules in
    let service : c.service-item.result ≡ get_or c.args.name.now.components 0 c.service-item.result = search rules in
    let instance : c.instance-item.result ≡ get_or c.args.name.now.components 1 c.instance-item.result = search rules in
    let pair : eq_by_cmp name_cmp c.args.name.now.components (tgs_principal c.args.realm.now) ≡ (bytes_eq c.service-item.result (codes "krbtgt") && bytes_eq c.instance-item.result c.args.realm.now) =
    tgs_pair c.args.name.now.components c.service-item.result c.instance-item.result c.args.realm.now two service instance in
    search rules

pub returns-in_default : goal.returns-in_default
returns-in_default c =
    let other : length c.args.name.now.components ≢ 2 = search rules in
    sym (tgs_other c.args.name.now.components c.args.realm.now other)

pub returns-in_default-2 : goal.returns-in_default-2
returns-in_default-2 c =
    let other : length c.args.name.now.components ≢ 2 = search rules in
    sym (tgs_other c.args.name.now.components c.args.realm.now other)
