use Rattle.std.proofs.Common.{◌≡◌, List, ◌++◌, Some, All}
use Rattle.serde_json.specs.View.{members_view}
use Rattle.principal_rows.specs.NameMap.{pairs}
use Rattle.principal_rows.specs.Row.{IsRow}
use Rattle.principals_text.specs.Value.{entries_of}
use Rattle.principals_text.proofs.RowEntries.{Text}
use Rattle.principals_text.proofs.text.read_entries.Given as goal

abbrev pub invariant-loop-text : goal.invariant-loop-text
invariant-loop-text l =
    (done : List Text) × (l.members.entries ≡ done ++ l.text-iterator) × (entries_of l.format (members_view done) ≡ Some (pairs l.entries.items)) × All (λ entry. IsRow entry.value) l.entries.items
