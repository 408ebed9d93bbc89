use Rattle.std.proofs.Common.{arith}
use Rattle.krb_joined.proofs.Sessions.{credential_if_issued}
use Rattle.krb_joined.proofs.reading.read_reply.Goals as goal

pub returns-clause-credential : goal.returns-clause-credential
returns-clause-credential c issue is reader = credential_if_issued issue c.args.octets.now (λ i. omega (arith, c.type_inv.octets i)) is c.args.reader.now c.args.asked.now reader c.read_by_role.result c.read_by_role.ensures.taken
