use Rattle.std.proofs.Common.{◌≡◌, map, take}
use Rattle.krb5_conf.specs.Kdc.{kdc_texts}
use Rattle.krb5_conf.proofs.kdc.plain_texts.Given as goal

-- the texts without a transport among those that were looked at
abbrev pub invariant-loop-text : goal.invariant-loop-text
invariant-loop-text l = map (λ text. text.now) l.plain.items ≡ kdc_texts (take l.text-index (map (λ text. text.now) l.texts))
