use Rattle.krb_joined.proofs.Taken.{read_so}
use Rattle.krb_joined.proofs.reading.read_by_role.Goals as goal

pub returns-in-Client-clause-value : goal.returns-in-Client-clause-value
returns-in-Client-clause-value c = read_so c.args.reader.now c.args.asked.now c.args.octets.now c.read_as_reply.result c.in-Client.is c.read_as_reply.ensures.value

pub returns-in-Subkey-clause-value : goal.returns-in-Subkey-clause-value
returns-in-Subkey-clause-value c = read_so c.args.reader.now c.args.asked.now c.args.octets.now c.read_tgs_reply.result c.in-Subkey.is c.read_tgs_reply.ensures.value

pub returns-in-Session-clause-value : goal.returns-in-Session-clause-value
returns-in-Session-clause-value c = read_so c.args.reader.now c.args.asked.now c.args.octets.now c.read_tgs_reply-in-Session.result c.in-Session.is c.read_tgs_reply-in-Session.ensures.value
