use Rattle.std.proofs.Common.{◌++◌, true, false}
use Rattle.std.proofs.lemmas.Result.{on_ok_weaker}
use Rattle.request_log.specs.declared.asker.Transport.TheVariants.{Udp, Tcp}
use Rattle.kdc_metrics.specs.CountText.{replies_head, reply_sample}
use Rattle.kdc_metrics.proofs.Appended.{both, four}
use Rattle.kdc_metrics.proofs.count_text.push_replies.Goals as goal

pub returns : goal.returns
returns c =
    let counts = c.args.counts.now in
    let one = reply_sample counts Udp true in
    let two = reply_sample counts Udp false in
    let three = reply_sample counts Tcp true in
    let last = reply_sample counts Tcp false in
    on_ok_weaker c.push_reply-4.result (λ is. both c.args.text.now.items replies_head (one ++ two ++ three ++ last) c.push_head.new.text.items c.push_reply-4.new.text.items
    c.in_ok-push_head.ensures (four c.push_head.new.text.items one two three last c.push_reply.new.text.items c.push_reply-2.new.text.items c.push_reply-3.new.text.items
    c.push_reply-4.new.text.items c.in_ok-push_reply.ensures c.in_ok-push_reply-2.ensures c.in_ok-push_reply-3.ensures is))
    c.push_reply-4.ensures
