use Rattle.aes_cts.proofs.Schedules.{inverse_schedule_of}
use Rattle.aes_cts.proofs.key.AesKey.inverse_schedule.Goals as goal

pub returns : goal.returns
returns c = inverse_schedule_of _ _ _ _ c.self.told c.self.invariant c.self.view_is c.inverse_schedule.ensures
