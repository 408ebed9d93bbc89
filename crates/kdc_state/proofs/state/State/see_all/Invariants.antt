use Rattle.std.proofs.Common.{◌≡◌, drop}
use Rattle.kdc_state.specs.Resumed.{after_all_seen}
use Rattle.kdc_state.proofs.state.State.see_all.Given as goal

abbrev pub invariant-loop-seen : goal.invariant-loop-seen
invariant-loop-seen l = after_all_seen l.self (drop l.seen-index l.all) ≡ after_all_seen l.fn.self l.all
