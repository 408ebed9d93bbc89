use Rattle.std.proofs.Common.{rules, ◌≡◌, None, FitsSigned, w64}
use Rattle.std.proofs.lemmas.Int.{to_z-of_z}
use Rattle.krb_der.specs.Time.{time_octets}
use Rattle.text_fields.specs.Dates.{unmarked}
use Rattle.text_fields.proofs.DateTexts.{if_none, no_moment, no_second}
use Rattle.text_fields.proofs.dates.moment.Goals as goal

pub returns-in_err-from_octets-clause-none : goal.returns-in_err-from_octets-clause-none
returns-in_err-from_octets-clause-none c =
    let digits : c.in_ok-unmarked.unmarked ≡ unmarked c.args.octets.now = search rules in
    let found : c.from_octets.result ≡ None = search rules in
    if_none c.from_residual-in_err-from_octets.result (no_moment c.args.octets.now c.in_ok-unmarked.unmarked c.from_octets.result digits c.from_octets.ensures.value found)

pub returns-clause-none : goal.returns-clause-none
returns-clause-none c =
    let digits : c.in_ok-unmarked.unmarked ≡ unmarked c.args.octets.now = search rules in
    let is : c.in_ok-unmarked.unmarked ≡ time_octets c.seconds.result = search rules in
    let fits : FitsSigned w64 c.seconds.result = search rules in
    let new = simp to_z-of_z at c.new.ensures in
    no_second c.new.result c.seconds.result c.args.octets.now c.in_ok-unmarked.unmarked new digits is c.seconds.ensures.range
