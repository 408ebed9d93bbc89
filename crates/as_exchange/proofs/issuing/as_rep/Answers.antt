use Rattle.std.proofs.Common.{rules, ◌≡◌}
use Rattle.std.specs.Prelude.{Some}
use Rattle.krb_types.specs.KdcRep.{kdc_rep}
use Rattle.kdc_replies.specs.Reply.{reply_of}
use Rattle.kdc_replies.proofs.Results.{respelled}
use Rattle.as_exchange.proofs.issuing.as_rep.Goals as goal

pub returns-clause-spelled : goal.returns-clause-spelled
returns-clause-spelled c =
    let time : c.time.result ≡ c.args.incoming.now.at.sec = search rules in
    let random : c.incoming.inside.random.now ≡ c.args.incoming.now.random = search rules in
    respelled (kdc_rep 11).Spells (λ v. v.items) _ _ c.ticket_reply.result
    (λ i. reply_of 11 25 (c.grant_by-grant.ensures.value i) c.args.admission.now.terms.service.key (c.reply_key_of-reply_key.ensures i)
    (Some (c.in_ok-padata.ensures.value i)) c.args.body.now.nonce (time i) (random i))
    c.ticket_reply.ensures.spelled
