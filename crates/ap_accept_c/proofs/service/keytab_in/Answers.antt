use Rattle.std.proofs.Common.{subst, sym}
use Rattle.ap_accept_c.specs.Service.{IsKeytabFault}
use Rattle.ap_accept_c.proofs.Faults.{not_read}
use Rattle.ap_accept_c.proofs.service.keytab_in.Goals as goal

pub returns-in-Err-clause-fault : goal.returns-in-Err-clause-fault
returns-in-Err-clause-fault c =
    subst (λ status. IsKeytabFault status c.args.octets.now) (sym c.of_cred_fault.ensures)
    (not_read c.in-Err.fault c.args.octets.now c.in-Err.ensures.only)
