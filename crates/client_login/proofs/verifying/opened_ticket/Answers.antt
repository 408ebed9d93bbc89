use Rattle.std.proofs.Common.{rules, ◌≡◌}
use Rattle.client_login.specs.Verifying.{opened}
use Rattle.client_login.proofs.Verified.{opened_if}
use Rattle.client_login.proofs.verifying.opened_ticket.Goals as goal

pub returns-in-Ok-clause-is : goal.returns-in-Ok-clause-is
returns-in-Ok-clause-is c =
    let e : c.require_match.result ≡ opened c.args.keytab.now c.args.credential.now = search rules in
    opened_if c.args.keytab.now c.args.credential.now c.require_match.result e
