use Rattle.ap_accept_c.proofs.Faults.{not_resumed}
use Rattle.ap_accept_c.proofs.service.Service.resume.Goals as goal

pub returns-in-Err-clause-fault : goal.returns-in-Err-clause-fault
returns-in-Err-clause-fault c =
    not_resumed c.in-Err.status c.args.keytab.now c.args.remembered c.args.saved.now c.in-Err.ensures.fault
