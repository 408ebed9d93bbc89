use Rattle.std.proofs.Common.{map}
use Rattle.krb5_conf.proofs.TextLaws.{one_text}
use Rattle.krb5_conf.proofs.kdc.plain_texts.Goals as goal

pub loop-text-preserved : goal.loop-text-preserved
loop-text-preserved c =
    one_text (λ text. text.now) c.args.texts.now c.loop-text.text-index _ (map (λ text. text.now) c.loop-text.plain.items)
    (map (λ text. text.now) c.push_plain.new.plain.items) c.loop-text-test.true c.in_ok-push_plain.ensures c.loop-text.invariant
