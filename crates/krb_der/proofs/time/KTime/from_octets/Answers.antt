use Rattle.std.proofs.Common.{◌≡◌, ◌∙◌, sym, true, FitsSigned, w64, rules}
use Rattle.std.proofs.lemmas.Int.{to_z-of_z}
use Rattle.krb_der.specs.Civil.{IsCivilSecond}
use Rattle.krb_der.specs.Digits.{is_spelled}
use Rattle.krb_der.specs.Time.{time_octets}
use Rattle.krb_der.proofs.TimeLaws.{time_from}
use Rattle.krb_der.proofs.time.KTime.from_octets.Goals as goal
use Rattle.krb_der.proofs.time.KTime.from_octets.Goals.{In_ok-seconds}

-- the seconds that were read are a time's, and the bytes are its encoding
read : (c : In_ok-seconds) → IsCivilSecond c.in_ok-seconds.seconds × (c.args.octets.now ≡ time_octets c.in_ok-seconds.seconds)
read c =
    let passed : is_spelled c.args.octets.now ≡ true = sym c.is_spelled.ensures ∙ c.if-not-is_spelled.false in
    time_from c.args.octets.now c.in_ok-seconds.seconds passed (rw c.spelled.ensures.value at (sym c.in_ok-seconds.ensures))

pub invariant_of-result : goal.invariant_of-result
invariant_of-result c = let fits : FitsSigned w64 c.in_ok-seconds.seconds = search rules in simp to_z-of_z (read c).0

pub returns-clause-one_spelling : goal.returns-clause-one_spelling
returns-clause-one_spelling c = let fits : FitsSigned w64 c.in_ok-seconds.seconds = search rules in simp to_z-of_z (read c).1
