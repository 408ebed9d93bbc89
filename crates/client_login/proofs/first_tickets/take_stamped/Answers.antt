use Rattle.std.proofs.Common.{rules, ◌≡◌, Some}
use Rattle.client_core.specs.Replies.{ticket_reply_in}
use Rattle.client_login.proofs.Takings.{took_first}
use Rattle.client_login.proofs.first_tickets.take_stamped.Goals as goal

pub returns-clause-ok : goal.returns-clause-ok
returns-clause-ok c =
    let read : ticket_reply_in 11 c.args.reply.now.octets.items ≡ Some c.in-Some-ticket_reply_in.ticket = search rules in
    took_first c.args.stamped.now.secret.now c.args.stamped.now.asked.now c.args.at.sec c.in_ok-key.key c.args.reply.now.octets.items
    c.in-Some-ticket_reply_in.ticket c.take.result c.in_ok-key.ensures.own read c.take.ensures.ok
