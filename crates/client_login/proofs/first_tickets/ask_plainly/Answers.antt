use Rattle.std.proofs.Common.{rules, ◌≡◌, Result, subst}
use Rattle.std.specs.Prelude.{IfErr}
use Rattle.client_core.specs.Replies.{refusal_in}
use Rattle.client_core.specs.declared.fault.ReplyError.TheVariants as found
use Rattle.enctypes.specs.declared.key.Key.{Key}
use Rattle.client_login.specs.Faults.{IsFirstFault, SaysRefused}
use Rattle.client_login.specs.Replies.{IsExchanged}
use Rattle.client_login.specs.declared.faults.LoginError.{LoginError}
use Rattle.client_login.proofs.Takings.{first_blames, refused_first}
use Rattle.client_login.proofs.Wider.{first_fault_wider}
use Rattle.client_login.proofs.first_tickets.ask_plainly.Goals as goal

pub returns-in_err-key-clause-err : goal.returns-in_err-key-clause-err
returns-in_err-key-clause-err g c =
    let read : refusal_in c.in_ok-reply.reply.octets.items ≡ found.Refused c.in-Some.refusal = search rules in
    let says = subst (λ (r : Result Key LoginError). IfErr r (λ why. SaysRefused c.args.first.now.secret.now c.args.first.now.asked.now c.in-Some.refusal why)) c.in_err-key.ensures.err.0 c.key_for_timestamp.ensures.err in
    let blame : IsFirstFault (IsExchanged g.X.Network.finds c.args.client.now.kdcs.places.items g.X.Network.carries g.X.Network.answers) c.args.first.now.secret.now c.args.first.now.asked.now c.args.client.now.at.sec c.in_err-key.field-0.0.why c.in_err-key.field-0.0.kdc =
    first_blames (IsExchanged g.X.Network.finds c.args.client.now.kdcs.places.items g.X.Network.carries g.X.Network.answers) c.args.first.now.secret.now c.args.first.now.asked.now c.args.client.now.at.sec c.in_ok-reply.reply
    c.in_err-key.field-0.0.why c.in_err-key.field-0.0.kdc c.in_ok-reply.ensures.ok
    (refused_first c.args.first.now.secret.now c.args.first.now.asked.now c.args.client.now.at.sec c.in_ok-reply.reply.octets.items c.in-Some.refusal c.in_err-key.field-0.0.why read says)
    c.in_err-key.ensures.err.1 in
    search rules

pub returns-clause-err : goal.returns-clause-err
returns-clause-err g c =
    first_fault_wider g.X.Network.finds c.args.client.now.kdcs.places.items c.ask.new.kdcs.places.items g.X.Network.carries g.X.Network.answers
    c.in_ok-reply.ensures.within c.args.first.now.secret.now c.args.first.now.asked.now c.args.client.now.at.sec c.ask_with_timestamp.result c.ask_with_timestamp.ensures.err
