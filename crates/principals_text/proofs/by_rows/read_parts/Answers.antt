use Rattle.std.proofs.Common.{rules, ◌≡◌, [], None, Some, IsTrue, ap, ◌∙◌}
use Rattle.principals_text.proofs.RowByRow.{parts_hold}
use Rattle.principals_text.proofs.by_rows.read_parts.Goals as goal

pub returns-clause-parts : goal.returns-clause-parts
returns-clause-parts c =
    let t1 = c.takes_object.new.reader in
    let s1 = c.takes_key.new.reader in
    let t2 = c.takes_object-else-not-takes_key.new.reader in
    let r1 = c.read_rows.new.reader in
    let s2 = c.takes_key-2.new.reader in
    let r2 = c.read_realm.new.reader in
    let s3 = c.takes_key-3.new.reader in
    let r3 = c.takes_version.new.reader in
    let opens : IsTrue c.takes_object.result = search rules in
    let first : IsTrue c.takes_key.result = search rules in
    let begun : IsTrue c.takes_object-else-not-takes_key.result = search rules in
    let second : IsTrue c.takes_key-2.result = search rules in
    let third : IsTrue c.takes_key-3.result = search rules in
    let numbered : IsTrue c.takes_version.result = search rules in
    let ended : IsTrue c.takes_end.result = search rules in
    let empty : c.takes_end.new.reader ≡ [] = search rules in
    let rows = c.in_ok-entries.ensures.rows in
    let realm = c.in_ok-realm.ensures.realm in
    parts_hold c.args.reader.now t1 s1 t2 r1 s2 r2 s3 r3 rows.0 realm.0 c.in_ok-realm.realm c.in_ok-entries.entries.items
    (c.takes_object.ensures opens) (c.takes_key.ensures first) (c.takes_object-else-not-takes_key.ensures begun)
    rows.1 (c.in_ok-entries.ensures.shorter (search rules))
    (c.takes_key-2.ensures second) realm.1 (c.takes_key-3.ensures third) (c.takes_version.ensures numbered)
    (c.takes_end.ensures ended ∙ ap (λ ts. Some (None, ts)) empty) rows.2 realm.2
