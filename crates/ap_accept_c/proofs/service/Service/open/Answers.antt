use Rattle.ap_accept_c.proofs.Faults.{not_opened}
use Rattle.ap_accept_c.proofs.service.Service.open.Goals as goal

pub returns-in-Err-clause-fault : goal.returns-in-Err-clause-fault
returns-in-Err-clause-fault c =
    not_opened c.in-Err.status c.args.keytab.now c.args.remembered c.in-Err.ensures.fault
