use Rattle.std.proofs.Common.{◌≡◌, pos, ◌*ℤ◌, ◌≤ℤ◌, arith, FitsSigned, w16}
use Rattle.std.proofs.lemmas.Int.{ints, to_z-of_z}
use Rattle.jiff_core.specs.DateTime.{civil_nanos}
use Rattle.krb_der.proofs.DateTimeLemmas.{parts_of-civil_at}
use Rattle.krb_der.proofs.civil.CivilTime.at.Goals as goal

pub overflow_cast-result : goal.overflow_cast-result
overflow_cast-result c =
    let t = c.from_nanosecond_in_range.result in
    let nanos : civil_nanos t ≡ c.args.seconds *ℤ pos 1_000_000_000 = omega (arith, ints) in
    let year : pos 0 ≤ℤ t.date.year = (parts_of-civil_at t c.args.seconds c.requires nanos).0 in
    let most = t.date.year_in in
    omega (arith, ints)

pub returns-clause-value : goal.returns-clause-value
returns-clause-value c =
    let t = c.from_nanosecond_in_range.result in
    let nanos : civil_nanos t ≡ c.args.seconds *ℤ pos 1_000_000_000 = omega (arith, ints) in
    let most = t.date.year_in in
    let fits : FitsSigned w16 t.date.year = omega (arith, ints) in
    simp to_z-of_z (parts_of-civil_at t c.args.seconds c.requires nanos).1
