use Rattle.std.proofs.Common.{sym, ◌∙◌}
use Rattle.krb_der.specs.IntLaws.{short_stays}
use Rattle.krb_der.proofs.int.shortest.Goals as goal

pub returns-in_default : goal.returns-in_default
returns-in_default c = sym (short_stays c.loop-rest.rest.now c.in_default.len_below) ∙ c.loop-rest.invariant
