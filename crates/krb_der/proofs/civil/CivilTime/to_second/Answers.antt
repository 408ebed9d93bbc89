use Rattle.std.proofs.Common.{◌≡◌, pos, ◌≤ℤ◌, arith, rules, ap, Some, FitsSigned, w64}
use Rattle.std.proofs.lemmas.Int.{ints, to_z-of_z}
use Rattle.jiff_core.specs.declared.civil.datetime.DateTime.{DateTime}
use Rattle.jiff_core.specs.DateTime.{civil_seconds}
use Rattle.krb_der.proofs.CivilLemmas.{same_civil}
use Rattle.krb_der.proofs.DateTimeLemmas.{parts_of, civil_second_from_parts_of}
use Rattle.krb_der.proofs.civil.CivilTime.to_second.Goals as goal

pub returns : goal.returns
returns c =
    let t : DateTime = record { date = c.in-Ok.date; time = c.in-Ok-new.time } in
    let small = c.requires in
    let date = c.in-Ok.ensures.value in
    let time = c.in-Ok-new.ensures.value in
    let from : pos 0 ≤ℤ t.date.year = omega (arith, ints) in
    let parts : parts_of t ≡ c.args.self =
    same_civil (parts_of t) c.args.self (omega (arith, ints)) (omega (arith, ints)) (omega (arith, ints)) (omega (arith, ints)) (omega (arith, ints)) (omega (arith, ints)) in
    let is = civil_second_from_parts_of t c.args.self from parts in
    let value : c.to_second.result ≡ civil_seconds t = c.to_second.ensures.value in
    let fits : FitsSigned w64 c.to_second.result = search rules in
    rw (is.0, is.1) (simp to_z-of_z (ap Some value))
