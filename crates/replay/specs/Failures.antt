-- The failures of a client that never failed.
use Rattle.std.specs.Prelude.{pos}
use Rattle.std.proofs.Common.{arith}
use Rattle.krb_fields.specs.declared.moment.Moment.{Moment}
use Rattle.krb_elements.specs.Simple.{IsMicrosecond}
use Rattle.krb_fields.specs.Moment.{IsSecond}
use Rattle.replay.specs.declared.failures.Failures.{Failures}

pub zero_is_second : IsSecond (pos 0)
zero_is_second = (omega arith, omega arith)

pub zero_is_microsecond : IsMicrosecond 0
zero_is_microsecond = omega arith

-- the start of 1970
abbrev pub epoch : Moment
epoch = record { sec = pos 0; usec = 0; sec_in_range = zero_is_second; usec_in_range = zero_is_microsecond }

abbrev pub no_failures : Failures
no_failures = record { count = 0; last = epoch; version = 0 }
