use Rattle.std.proofs.Common.{◌≡◌, ◌++◌, drop}
use Rattle.std.specs.Prelude.{map}
use Rattle.journal.specs.Decision.{seen_of}
use Rattle.journal.proofs.decision.see_all.Given as goal

abbrev pub invariant-loop-entry : goal.invariant-loop-entry
invariant-loop-entry l =
    l.seen.items ++ map seen_of (drop l.entry-index l.entries) ≡ l.fn.seen.items ++ map seen_of l.entries
