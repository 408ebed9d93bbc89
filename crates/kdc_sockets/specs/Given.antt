-- How much a connection was given, and how much is all.
use Rattle.std.specs.Prelude.{◌+◌, ◌-◌, ◌^◌, ◌||◌, ℕ, List, Bool, length, min, nat_le}
use Rattle.kdc_sockets.specs.declared.given.Given.{Given}

abbrev pub nothing_given : Given
nothing_given = record { replies = 0; bytes = 0 }

-- a count that stops at the greatest `u64`
abbrev pub counted_on : ℕ → ℕ → ℕ
counted_on count more = min (count + more) (2 ^ 64 - 1)

-- one reply more, and its bytes with the four of its length
abbrev pub given_more : Given → List ℕ → Given
given_more given message = record {
  replies = counted_on given.replies 1;
  bytes = counted_on given.bytes (counted_on (length message) 4);
}

-- A connection is given 256 replies, or 262,144 bytes of them. Those that were written with the last one are more.
abbrev pub is_all_given : Given → Bool
is_all_given given = nat_le 256 given.replies || nat_le 262_144 given.bytes
