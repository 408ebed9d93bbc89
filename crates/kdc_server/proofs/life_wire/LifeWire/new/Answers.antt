use Rattle.std.proofs.Common.{[]}
use Rattle.kdc_server.proofs.life_wire.LifeWire.new.Goals as goal

pub invariant_of-result : goal.invariant_of-result
invariant_of-result g c = record {
  asked = ∣ record { did = []; recorded = c.requires.tally; asked = c.requires.begun } ∣₁;
}
