-- A moment is determined by its numbers: the proof that they are in range is unique.
use Rattle.std.proofs.Common.{◌≡◌}
use Rattle.std.proofs.Props.{props}
use Rattle.std.specs.Prelude.{pos}
use Rattle.krb_elements.specs.Simple.{IsMicrosecond}
use Rattle.krb_fields.specs.Moment.{IsSecond}
use Rattle.replay.specs.declared.failures.Failures.{Failures}
use Rattle.replay.specs.Failures.{no_failures, zero_is_second, zero_is_microsecond}

second_once : IsProp (IsSecond (pos 0))
second_once = hlevel props

microsecond_once : IsProp (IsMicrosecond 0)
microsecond_once = hlevel props

pub no_failures_is : (s : IsSecond (pos 0)) (u : IsMicrosecond 0) → ◌≡◌ {A = Failures} (record { count = 0; last = record { sec = pos 0; usec = 0; sec_in_range = s; usec_in_range = u }; version = 0 }) no_failures
no_failures_is s u = λ i. record { count = 0; last = record { sec = pos 0; usec = 0; sec_in_range = second_once s zero_is_second i; usec_in_range = microsecond_once u zero_is_microsecond i }; version = 0 }
