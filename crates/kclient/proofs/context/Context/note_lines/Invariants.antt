use Rattle.std.specs.Prelude.{◌≡◌}
use Rattle.kclient.proofs.context.Context.note_lines.Given as goal

abbrev pub invariant-loop-line : goal.invariant-loop-line
invariant-loop-line g l = l.self.store ≡ l.fn.self.store
