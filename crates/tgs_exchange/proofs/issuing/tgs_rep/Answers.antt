use Rattle.std.proofs.Common.{rules, ◌≡◌}
use Rattle.std.specs.Prelude.{None}
use Rattle.krb_types.specs.KdcRep.{kdc_rep}
use Rattle.kdc_replies.specs.Reply.{reply_of}
use Rattle.kdc_replies.proofs.Results.{respelled}
use Rattle.tgs_exchange.specs.Issue.{grant_by}
use Rattle.tgs_exchange.proofs.issuing.tgs_rep.Goals as goal

pub returns-clause-spelled : goal.returns-clause-spelled
returns-clause-spelled c =
    let time : c.time.result ≡ c.args.incoming.now.at.sec = search rules in
    let random : c.incoming.inside.random.now ≡ c.args.incoming.now.random = search rules in
    let grant : c.grant_by-grant.result ≡ grant_by c.args.view.now c.args.incoming.now.random c.args.body.now c.args.presented.now c.args.admission.now = search rules in
    respelled (kdc_rep 13).Spells (λ v. v.items) _ _ c.ticket_reply.result
    (λ i. reply_of 13 26 (grant i) c.args.admission.now.terms.service.key (c.reply_key_of-reply_key.ensures i) None c.args.body.now.nonce (time i) (random i))
    c.ticket_reply.ensures.spelled
