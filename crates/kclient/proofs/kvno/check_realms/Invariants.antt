use Rattle.std.specs.Prelude.{◌≡◌}
use Rattle.kclient.proofs.kvno.check_realms.Given as goal

abbrev pub invariant-loop-service : goal.invariant-loop-service
invariant-loop-service g l = l.context.store ≡ l.fn.context.store
