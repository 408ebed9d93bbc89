use Rattle.std.proofs.Common.{◌==◌, ◌||◌, ap, ◌∙◌}
use Rattle.krb_fields.specs.Flags.{has_bit}
use Rattle.krb_fields.proofs.BitLaws.{has_bit-set}
use Rattle.krb_fields.proofs.flags.Flags.with.Goals as goal

pub returns-clause-bits : goal.returns-clause-bits
returns-clause-bits g c = λ n within.
    has_bit-set c.self.inside.bits c.number.result n c.number.ensures.within within
    ∙ ap (λ b. n == b || has_bit c.self.inside.bits n) c.number.ensures.value
    ∙ ap (λ flags. n == g.B.NamedBit.bit_number c.args.bit || has_bit flags n) c.self.view_is
