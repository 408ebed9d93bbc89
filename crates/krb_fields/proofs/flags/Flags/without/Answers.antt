use Rattle.std.proofs.Common.{◌==◌, ◌&&◌, not, ap, ◌∙◌}
use Rattle.krb_fields.specs.Flags.{has_bit}
use Rattle.krb_fields.proofs.BitLaws.{has_bit-clear}
use Rattle.krb_fields.proofs.flags.Flags.without.Goals as goal

pub returns-clause-bits : goal.returns-clause-bits
returns-clause-bits g c = λ n within.
    has_bit-clear c.self.inside.bits c.number.result n c.number.ensures.within within
    ∙ ap (λ b. not (n == b) && has_bit c.self.inside.bits n) c.number.ensures.value
    ∙ ap (λ flags. not (n == g.B.NamedBit.bit_number c.args.bit) && has_bit flags n) c.self.view_is
