use Rattle.std.proofs.Common.{◌∙◌}
use Rattle.kdc_sockets.proofs.Waiting.{keeps_later}
use Rattle.kdc_sockets.proofs.connections.Connections.drop_idle.Goals as goal

pub loop-preserved : goal.loop-preserved
loop-preserved c = record {
  alike = λ conn. c.drop_closing.ensures.alike conn ∙ c.loop.invariant.alike conn;
  calm = c.drop_closing.ensures.calm ∙ c.loop.invariant.calm;
  kept = keeps_later c.args.self.now.held.entries c.loop.self.held.entries c.drop_closing.new.self.held.entries c.loop.invariant.kept c.drop_closing.ensures.kept;
}
