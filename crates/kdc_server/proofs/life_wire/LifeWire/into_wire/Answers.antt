use Rattle.kdc_server.proofs.life_wire.LifeWire.into_wire.Goals as goal

pub returns-clause-asked : goal.returns-clause-asked
returns-clause-asked g c = c.args.self.asked
