use Rattle.std.proofs.Common.{◌≡◌}
use Rattle.kadm.specs.Batches.{input_texts}
use Rattle.kadm.proofs.InputLines.{ReadOn}
use Rattle.kadm.proofs.batch.read_lines.Given as goal

-- the lines so far, with those that are left, are those of the whole input
abbrev pub invariant-loop-number : goal.invariant-loop-number
invariant-loop-number g l =
    (g.T.Store.world l.store ≡ g.T.Store.world l.fn.store)
    × ReadOn (g.T.Store.input l.fn.store) (input_texts l.lines.items) (g.T.Store.input l.store)
