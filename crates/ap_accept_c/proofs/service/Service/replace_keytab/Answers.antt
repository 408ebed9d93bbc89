use Rattle.std.proofs.Common.{refl}
use Rattle.ap_accept_c.proofs.Faults.{not_replaced}
use Rattle.ap_accept_c.proofs.service.Service.replace_keytab.Goals as goal

pub returns-in-Err : goal.returns-in-Err
returns-in-Err c =
    not_replaced c.in-Err.status c.args.self.now c.args.self.now c.args.keytab.now refl c.in-Err.ensures.fault
