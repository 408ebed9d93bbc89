use Rattle.std.proofs.Common.{◌≡◌, ◌++◌, All, length}
use Rattle.std.specs.Vec.Iter.{into_iter_items, into_iter_len}
use Rattle.kadm.specs.Batches.{IsLineRead, input_texts, line_texts}
use Rattle.kadm.proofs.batch.with_passwords.Given as goal

-- the lines so far, with those that are left, are all of them
abbrev pub invariant-loop-line : goal.invariant-loop-line
invariant-loop-line g l =
    (g.T.Store.world l.store ≡ g.T.Store.world l.fn.store) × All (IsLineRead (g.T.Store.world l.fn.store)) l.all.items
    × (line_texts l.all.items ++ input_texts (into_iter_items l.line-iterator) ≡ input_texts l.fn.lines.items)
    × (into_iter_len l.line-iterator ≡ length (into_iter_items l.line-iterator))
