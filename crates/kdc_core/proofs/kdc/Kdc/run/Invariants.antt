use Rattle.std.proofs.Common.{map, option_map}
use Rattle.kdc_core.proofs.Runs.{AreDone}
use Rattle.kdc_core.proofs.kdc.Kdc.run.Given as goal

abbrev pub invariant-loop-event : goal.invariant-loop-event
invariant-loop-event l = AreDone l.fn.self l.events l.event-index (map (option_map (λ octets. octets.items)) l.replies.items) l.self
