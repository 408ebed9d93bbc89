use Rattle.std.proofs.Common.{◌∙◌}
use Rattle.krb_der.proofs.reader.Reader.read_time.Goals as goal

pub returns-in-Ok-clause-only : goal.returns-in-Ok-clause-only
returns-in-Ok-clause-only c = λ x rest s. c.in-Ok.ensures.only x rest (s.0, s.1, c.self.view_is ∙ s.2)

pub returns-in-Err-clause-only : goal.returns-in-Err-clause-only
returns-in-Err-clause-only c = λ x rest s. absurd (c.in-Err.ensures.only x rest (s.0, s.1, c.self.view_is ∙ s.2))
