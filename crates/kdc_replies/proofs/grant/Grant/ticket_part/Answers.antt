use Rattle.std.proofs.Common.{Some, None}
use Rattle.kdc_replies.proofs.grant.Grant.ticket_part.Goals as goal

pub returns-clause-value : goal.returns-clause-value
returns-clause-value c = λ i. record {
  flags = c.args.self.now.flags;
  key = c.lent_key.ensures.value i;
  crealm = c.new.ensures i;
  cname = c.new-2.ensures i;
  transited = c.no_realms.ensures i;
  authtime = c.args.self.now.authtime;
  starttime = Some c.args.self.now.times.start;
  endtime = c.args.self.now.times.end;
  renew_till = c.args.self.now.times.renew_till;
  caddr = None;
  authorization_data = c.lent_data.ensures i;
}
