use Rattle.std.proofs.Common.{◌≡◌, ◌∙◌, ap, arith, FitsSigned, w64}
use Rattle.std.proofs.lemmas.Int.{ints, to_z-of_z}
use Rattle.krb_der.specs.Digits.{spelling}
use Rattle.krb_der.specs.Time.{time_octets}
use Rattle.krb_der.proofs.TimeLaws.{time_again}
use Rattle.krb_der.proofs.time.KTime.to_octets.Goals as goal

pub returns-clause-value : goal.returns-clause-value
unfolding time_octets
returns-clause-value c =
    let seconds = c.self.inside.seconds in
    let in_range = c.self.invariant in
    let fits : FitsSigned w64 seconds = omega (arith, ints) in
    let octets : c.spelling.result ≡ time_octets seconds = c.spelling.ensures ∙ ap spelling (simp to_z-of_z at c.at.ensures.value) in
    rw (octets, ← c.self.view_is) (time_again seconds in_range).1
