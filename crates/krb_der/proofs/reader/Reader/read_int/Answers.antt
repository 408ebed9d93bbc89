use Rattle.std.proofs.Common.{◌∙◌, ◌≡◌, rules}
use Rattle.krb_der.proofs.reader.Reader.read_int.Goals as goal

pub returns-in_err-value-clause-only : goal.returns-in_err-value-clause-only
returns-in_err-value-clause-only c = λ x rest s. absurd (c.in_err-value.ensures.only x rest (s.0, s.1, c.self.view_is ∙ s.2))

pub returns-clause-only : goal.returns-clause-only
returns-clause-only c = λ x rest s.
    let p = c.in_ok-value.ensures.only x rest (s.0, s.1, c.self.view_is ∙ s.2) in
    ((let same : c.in_ok-value.value ≡ x = p.0 in search rules), p.1)
