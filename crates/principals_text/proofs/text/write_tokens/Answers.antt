use Rattle.std.proofs.Common.{rules, ◌≡◌, ap, subst, ◌∙◌}
use Rattle.std.proofs.lemmas.Result.{on_ok_weaker}
use Rattle.std.specs.FinMap.{entries}
use Rattle.serde_json.specs.Data.{Data, no_members}
use Rattle.krb_fields.specs.NameText.{component_text}
use Rattle.principals.specs.Database.{IsDatabase}
use Rattle.principals_text.specs.Ahead.{text_value}
use Rattle.principals_text.specs.Tokens.{IsLonger, data_tokens, named_members}
use Rattle.principals_text.specs.Written.{with_rows, database_value}
use Rattle.principals_text.proofs.DatabaseReadBack.{database_read_back, rows_read_back}
use Rattle.principals_text.proofs.KeptRows.{database_kept}
use Rattle.principals_text.proofs.text.write_tokens.Goals as goal

pub returns-clause-tokens : goal.returns-clause-tokens
returns-clause-tokens c =
    let p = c.args.principals.now in
    let rows : named_members c.in_ok-rows.rows.entries ≡ with_rows no_members (entries p.rows) = c.in_ok-rows.ensures.members ∙ ap (with_rows no_members) c.entries.ensures in
    let realm : c.as_str.result.now ≡ component_text p.realm = search rules in
    let value : text_value (named_members c.in_ok-rows.rows.entries) c.as_str.result.now ≡ database_value p = λ i. text_value (rows i) (realm i) in
    on_ok_weaker c.write_parts.result (λ e. subst (λ (d : Data). IsLonger c.args.out.now c.write_parts.new.out (data_tokens d)) value e) c.write_parts.ensures

pub returns-clause-reads : goal.returns-clause-reads
returns-clause-reads c =
    let p = c.args.principals.now in
    let valid : IsDatabase p = c.realm.ensures.valid in
    let rows = rows_read_back p c.entries.result.now valid c.entries.ensures c.in_ok-rows.ensures.reads in
    let reads = database_read_back p valid rows in
    on_ok_weaker c.write_parts.result (λ _. reads) c.write_parts.ensures

pub returns-clause-kept : goal.returns-clause-kept
returns-clause-kept c =
    let kept = database_kept c.args.principals.now c.entries.result.now c.entries.ensures c.in_ok-rows.ensures.kept in
    on_ok_weaker c.write_parts.result (λ _. kept) c.write_parts.ensures
