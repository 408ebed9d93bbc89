use Rattle.std.proofs.Common.{◌∙◌}
use Rattle.krb_der.proofs.reader.Reader.read_bits.Goals as goal

pub returns-in_err-bits-clause-only : goal.returns-in_err-bits-clause-only
returns-in_err-bits-clause-only c = λ x rest s. absurd (c.in_err-bits.ensures.only x rest (s.0, s.1, c.self.view_is ∙ s.2))

pub returns-clause-only : goal.returns-clause-only
returns-clause-only c = λ x rest s. c.in_ok-bits.ensures.only x rest (s.0, s.1, c.self.view_is ∙ s.2)
