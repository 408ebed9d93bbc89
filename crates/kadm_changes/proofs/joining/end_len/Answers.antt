use Rattle.std.proofs.Common.{ap, length, subst, sym}
use Rattle.kadm_changes.specs.Keytabs.{EndsIn}
use Rattle.kadm_changes.proofs.KeytabParts.{no_end}
use Rattle.kadm_changes.proofs.joining.end_len.Goals as goal

pub returns-in-Some : goal.returns-in-Some
returns-in-Some c = λ end is.
    ap length (c.end_of.ensures.end end (subst (λ octets. EndsIn octets end) (sym c.in-Some.ensures.some) is))

pub returns-in-None : goal.returns-in-None
returns-in-None c = no_end c.args.octets.now c.in-None.ensures.none
