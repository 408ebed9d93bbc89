use Rattle.std.proofs.Common.{◌≡◌, drop}
use Rattle.std.specs.List.{AllWithin}
use Rattle.serde_json.specs.Data.{no_members}
use Rattle.principal_rows.specs.NameMap.{pairs}
use Rattle.principals_text.specs.ReadBack.{IsEntryReadBack}
use Rattle.principals_text.specs.RowWritten.{row_value}
use Rattle.principals_text.specs.Tokens.{ReadsBack, named_members}
use Rattle.principals_text.specs.Written.{with_rows}
use Rattle.principals_text.proofs.row_tokens.named_rows.Given as goal

abbrev pub invariant-loop-entry : goal.invariant-loop-entry
invariant-loop-entry l =
    (with_rows (named_members l.rows.entries) (pairs (drop l.entry-index l.entries)) ≡ with_rows no_members (pairs l.entries))
    × AllWithin IsEntryReadBack l.entries 0 l.entry-index × AllWithin (λ entry. ReadsBack (row_value entry.value)) l.entries 0 l.entry-index
