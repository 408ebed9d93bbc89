use Rattle.std.proofs.Common.{◌-◌, ◌≤◌}
use Rattle.kdcd.specs.Octets.{octets_of}
use Rattle.kdcd.proofs.Running.{HasRun}
use Rattle.kdcd.proofs.script.run_on.Given as goal

-- what may still be read
abbrev pub decreases-loop-line : goal.decreases-loop-line
decreases-loop-line g l = 16777217 - l.input.taken

abbrev pub invariant-loop-line : goal.invariant-loop-line
invariant-loop-line g l =
    record {
      early : l.input.taken ≤ 16777216;
      run : HasRun (octets_of g.R.Read.remaining l.fn.input.octets) (octets_of g.R.Read.remaining l.input.octets)
          (g.W.Write.contents l.fn.writer) (g.W.Write.contents l.writer) l.kdc l.input.number l.input.taken;
    }
