use Rattle.std.proofs.Common.{rules, ◌≡◌, ◌<◌, length, get_or, string_bytes, ap, ◌∙◌}
use Rattle.serde_json.specs.Data.{no_members, put}
use Rattle.krb_fields.specs.NameText.{text_of}
use Rattle.principal_rows.specs.NameMap.{pairs}
use Rattle.principal_rows.specs.declared.name_map.Entry.{Entry}
use Rattle.principal_rows.specs.declared.row.Row.{Row}
use Rattle.principals_text.specs.ReadBack.{IsEntryReadBack}
use Rattle.principals_text.specs.RowWritten.{row_value}
use Rattle.principals_text.specs.Tokens.{ReadsBack, named_members}
use Rattle.principals_text.specs.Written.{with_rows}
use Rattle.principals_text.proofs.ReadBack.{one_more_read, at_end}
use Rattle.principals_text.proofs.Members.{one_more, all_rows}
use Rattle.principals_text.proofs.RowTokens.{named_members-insert}
use Rattle.principals_text.proofs.row_tokens.named_rows.Goals as goal

pub loop-entry-preserved : goal.loop-entry-preserved
loop-entry-preserved c =
    let held = c.loop-entry.invariant in
    let row = row_value c.entry-item.result.value in
    let within : c.loop-entry.entry-index < length c.args.entries.now = search rules in
    let here : ◌≡◌ {A = Entry Row} c.entry-item.result (get_or c.args.entries.now c.loop-entry.entry-index c.entry-item.result) = search rules in
    let text : string_bytes c.in_ok-text.text ≡ text_of c.entry-item.result.name.components = search rules in
    let made : named_members c.insert.new.self.entries ≡ put (text_of c.entry-item.result.name.components) row (named_members c.loop-entry.rows.entries) =
    ap named_members c.in_ok-insert.ensures.entries ∙ named_members-insert c.loop-entry.rows.entries c.in_ok-text.text _ ∙ ap (λ t. put t row (named_members c.loop-entry.rows.entries)) text in (
      one_more c.args.entries.now c.loop-entry.entry-index c.entry-item.result (named_members c.loop-entry.rows.entries) (named_members c.insert.new.self.entries) (with_rows no_members (pairs c.args.entries.now)) within here made held.0,
      one_more_read IsEntryReadBack c.args.entries.now c.loop-entry.entry-index c.entry-item.result held.1 within here c.know_row.ensures.reads,
      one_more_read (λ (entry : Entry Row). ReadsBack (row_value entry.value)) c.args.entries.now c.loop-entry.entry-index c.entry-item.result held.2 within here c.know_row.ensures.kept,
    )

pub returns-clause-members : goal.returns-clause-members
returns-clause-members c =
    all_rows c.args.entries.now c.loop-entry.entry-index (named_members c.loop-entry.rows.entries) (with_rows no_members (pairs c.args.entries.now)) c.loop-entry-test.false c.loop-entry.invariant.0

pub returns-clause-reads : goal.returns-clause-reads
returns-clause-reads c = at_end IsEntryReadBack c.args.entries.now c.loop-entry.entry-index c.loop-entry.invariant.1 c.loop-entry-test.false

pub returns-clause-kept : goal.returns-clause-kept
returns-clause-kept c = at_end (λ (entry : Entry Row). ReadsBack (row_value entry.value)) c.args.entries.now c.loop-entry.entry-index c.loop-entry.invariant.2 c.loop-entry-test.false
