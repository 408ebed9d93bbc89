use Rattle.std.proofs.Common.{◌≡◌, ◌++◌, length}
use Rattle.principals_text.specs.RowWritten.{key_value}
use Rattle.principals_text.specs.Tokens.{values_tokens}
use Rattle.principals_text.proofs.row_reading.take_keys.Given as goal

abbrev pub invariant-loop-reader : goal.invariant-loop-reader
invariant-loop-reader l = l.initial.reader ≡ values_tokens key_value l.keys.items ++ l.reader

abbrev pub decreases-loop-reader : goal.decreases-loop-reader
decreases-loop-reader l = length l.reader
