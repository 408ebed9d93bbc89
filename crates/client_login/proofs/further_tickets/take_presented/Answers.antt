use Rattle.std.proofs.Common.{rules, ◌≡◌, Some}
use Rattle.client_core.specs.Replies.{ticket_reply_in}
use Rattle.client_login.proofs.Takings.{took_tgs}
use Rattle.client_login.proofs.further_tickets.take_presented.Goals as goal

pub returns-clause-ok : goal.returns-clause-ok
returns-clause-ok c =
    let read : ticket_reply_in 13 c.args.reply.now.octets.items ≡ Some c.in-Some-ticket_reply_in.ticket = search rules in
    took_tgs c.args.expected.now.asked.now c.args.expected.now.at.sec c.args.expected.now.key.now c.args.reply.now.octets.items
    c.in-Some-ticket_reply_in.ticket c.take.result read c.take.ensures.ok
