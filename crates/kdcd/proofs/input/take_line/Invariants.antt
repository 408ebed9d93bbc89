-- What was read so far has no line feed and stands in `line`.
use Rattle.std.proofs.Common.{◌≡◌, ◌≢◌, All, length}
use Rattle.std.specs.Io.KnownBytes.{Consumes}
use Rattle.kdcd.specs.Octets.{octets_of}
use Rattle.kdcd.proofs.input.take_line.Given as goal

abbrev pub invariant-loop-taken : goal.invariant-loop-taken
invariant-loop-taken g l =
    record {
      read : Consumes (octets_of g.R.Read.remaining l.initial.octets) (octets_of g.R.Read.remaining l.octets) l.line.items;
      no_feed : All (λ o. o ≢ 10) l.line.items;
      count : length l.line.items ≡ l.taken;
    }
