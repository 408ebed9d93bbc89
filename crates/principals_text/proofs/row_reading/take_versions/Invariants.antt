use Rattle.std.proofs.Common.{◌≡◌, ◌++◌, length}
use Rattle.principals_text.specs.RowWritten.{version_value}
use Rattle.principals_text.specs.Tokens.{values_tokens}
use Rattle.principals_text.proofs.row_reading.take_versions.Given as goal

abbrev pub invariant-loop-alloc : goal.invariant-loop-alloc
invariant-loop-alloc l = l.initial.reader ≡ values_tokens version_value l.versions.items ++ l.reader

abbrev pub decreases-loop-alloc : goal.decreases-loop-alloc
decreases-loop-alloc l = length l.reader
