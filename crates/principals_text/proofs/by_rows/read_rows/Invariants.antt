use Rattle.std.proofs.Common.{◌≡◌, ℕ, ◌≤◌, length, reverse, Some, All}
use Rattle.std.specs.FinMap.{from_entries}
use Rattle.serde_json.specs.Data.{Members, no_members}
use Rattle.principal_rows.specs.NameMap.{pairs}
use Rattle.principal_rows.specs.Row.{IsRow}
use Rattle.principals_text.specs.Ahead.{members_at, rows_in}
use Rattle.principals_text.proofs.by_rows.read_rows.Given as goal

abbrev pub invariant-loop-entries : goal.invariant-loop-entries
invariant-loop-entries l =
    (n : ℕ) × (found : Members) × (length l.reader ≤ n)
    × (members_at 125 no_members (length l.initial.reader) l.initial.reader ≡ members_at 125 found n l.reader)
    × (rows_in found ≡ Some (from_entries (pairs (reverse l.entries.items))))
    × All (λ entry. IsRow entry.value) l.entries.items
    × (length l.reader ≤ length l.initial.reader)

abbrev pub decreases-loop-entries : goal.decreases-loop-entries
decreases-loop-entries l = length l.reader
