-- Reading a simple type undoes encoding it.
use Rattle.krb_der.specs.declared.fault.DerFault.TheVariants.{BadInteger, BadBits, BadTime}
use Rattle.krb_der.specs.Int.{is_int, int_value, Int}
use Rattle.krb_der.specs.Bits.{is_bits, bits_value, Bits}
use Rattle.krb_der.specs.Time.{is_time, time_value, Time}
use Rattle.krb_der.specs.Reading.{int_at, bits_at, time_at}
use Rattle.krb_der.specs.Laws.{IsReading, leaf_ok}

pub int_ok : IsReading Int int_at
unfolding int_at
int_ok = leaf_ok 2 is_int int_value BadInteger

pub bits_ok : IsReading Bits bits_at
unfolding bits_at
bits_ok = leaf_ok 3 is_bits bits_value BadBits

pub time_ok : IsReading Time time_at
unfolding time_at
time_ok = leaf_ok 24 is_time time_value BadTime
