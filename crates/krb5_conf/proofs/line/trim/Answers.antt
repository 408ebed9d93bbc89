use Rattle.std.proofs.Common.{refl}
use Rattle.std.proofs.lemmas.Str.Ascii.{trim_ascii_is}
use Rattle.krb5_conf.specs.Line.{trimmed, unindented}
use Rattle.krb5_conf.proofs.line.trim.Goals as goal

pub returns : goal.returns
unfolding trimmed
returns c = trim_ascii_is c.args.text.now c.trim_ascii.result.now (unindented c.args.text.now) refl c.trim_ascii.ensures.value
