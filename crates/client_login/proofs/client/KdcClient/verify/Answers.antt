use Rattle.std.proofs.Common.{rules, ◌≡◌, Ok}
use Rattle.client_login.specs.Verifying.{verified}
use Rattle.client_login.proofs.Verified.{ticket_of, valid_at}
use Rattle.client_login.proofs.client.KdcClient.verify.Goals as goal

pub returns-in-Ok-clause-ok : goal.returns-in-Ok-clause-ok
returns-in-Ok-clause-ok g c =
    let e : Ok c.in-Ok.field-0 ≡ verified c.args.keytab.now c.args.self.now.at.sec c.in_ok-credential.credential = search rules in
    ticket_of c.args.keytab.now c.in_ok-credential.credential c.args.self.now.at.sec c.in-Ok.field-0 e

pub returns-in-Ok-clause-valid : goal.returns-in-Ok-clause-valid
returns-in-Ok-clause-valid g c =
    let e : Ok c.in-Ok.field-0 ≡ verified c.args.keytab.now c.args.self.now.at.sec c.in_ok-credential.credential = search rules in
    valid_at c.args.keytab.now c.in_ok-credential.credential c.args.self.now.at.sec c.in-Ok.field-0 e
