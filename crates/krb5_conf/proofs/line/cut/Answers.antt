use Rattle.std.proofs.Common.{sym, ◌∙◌}
use Rattle.krb5_conf.proofs.FirstLaws.{first_is, first_none}
use Rattle.krb5_conf.proofs.line.cut.Goals as goal

pub returns-in_err-place-clause-none : goal.returns-in_err-place-clause-none
returns-in_err-place-clause-none c = rw c.from_residual.ensures (first_none _ c.args.text.now (sym c.find_octet.ensures ∙ c.in_err-place.was))

pub returns-clause-some : goal.returns-clause-some
returns-clause-some c = (first_is _ c.args.text.now c.in_ok-place.place (sym c.find_octet.ensures ∙ c.in_ok-place.was)).0
