use Rattle.std.proofs.Common.{rules, ◌≡◌}
use Rattle.kdc_replies.specs.Grant.{session_key}
use Rattle.ticket_times.specs.Flags.{tgs_flags}
use Rattle.ap_req.specs.Validity.{ticket_terms}
use Rattle.tgs_exchange.proofs.issuing.grant_by.Goals as goal

pub returns-clause-value : goal.returns-clause-value
returns-clause-value c =
    let realm : c.new.result ≡ c.args.view.now.realm = search rules in
    let client : c.new-2.result ≡ c.args.presented.now.ticket.cname = search rules in
    let service : c.new-3.result ≡ c.args.admission.now.terms.service.name = search rules in
    let key : c.session_key.result ≡ session_key c.args.admission.now.terms.service.session_type c.args.random.now = search rules in
    let flags : c.issued_flags.result ≡ tgs_flags c.args.body.now (ticket_terms c.args.presented.now.ticket) c.args.admission.now.terms.service.policy c.args.admission.now.times = search rules in
    let authorization : c.lent_data.result ≡ c.args.presented.now.ticket.authorization_data = search rules in
    λ i. record {
      realm = realm i;
      client = client i;
      service = service i;
      session_key = key i;
      flags = flags i;
      authtime = c.args.presented.now.ticket.authtime;
      times = c.args.admission.now.times;
      authorization_data = authorization i;
    }
