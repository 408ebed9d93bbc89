-- Reading a time gives the one that was written, and it has only one encoding.
use Rattle.std.proofs.Common.{◌≡◌, ℤ, List, ℕ, refl, sym, ap, subst, ◌∙◌, arith}
use Rattle.krb_der.specs.Spelling.{tlv}
use Rattle.krb_der.specs.Civil.{IsCivilSecond}
use Rattle.krb_der.specs.Time.{time_octets, Time, time_spelling}
use Rattle.krb_der.proofs.TimeLaws.{time_again, time_value_range, time_one_spelling, length-time_octets}

pub time_spelled : (z : ℤ) → IsCivilSecond z → Time z (time_spelling z)
time_spelled z h =
    let again = time_again z h in
    (time_octets z, omega (arith, length-time_octets z), record { passes = again.0; stands = again.1 }, refl)

pub time_range : (z : ℤ) (bytes : List ℕ) → Time z bytes → IsCivilSecond z
time_range z bytes s = subst IsCivilSecond s.2.stands (time_value_range s.0 s.2.passes)

-- no time has two encodings
pub time_unique : (z : ℤ) (bytes : List ℕ) → Time z bytes → bytes ≡ time_spelling z
time_unique z bytes s = s.3 ∙ ap (tlv 24) (sym (ap time_octets (sym s.2.stands) ∙ time_one_spelling s.0 s.2.passes))
