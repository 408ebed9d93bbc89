-- The front of a stream (RFC 4120, section 7.2.2).
use Rattle.std.specs.Prelude.{ℕ, ◌^◌, List, ◌++◌, length, take, drop, Option, Some, None, Result, Ok, Err, nat_lt}
use Rattle.std.specs.Prelude.{nat_le, if◌then◌else◌}
use Rattle.std.specs.Int.{w32, to_be_bytes, from_be_bytes}
use Rattle.framing.specs.declared.fault.FrameFault.{FrameFault}
use Rattle.framing.specs.declared.fault.FrameFault.TheVariants.{HighBit, TooLong}

-- a length in four bytes, most significant first
unfoldable pub length_octets : ℕ → List ℕ
length_octets n = to_be_bytes w32 n

-- a message with its length before it
abbrev pub framed : List ℕ → List ℕ
framed message = length_octets (length message) ++ message

-- the first bit of a length, which is reserved
abbrev pub high_bit : ℕ
high_bit = 2 ^ 31

-- a message, less than a whole one, or a bad length
abbrev pub Front : Type 0
Front = Result (Option (List ℕ)) FrameFault

-- the first n bytes after a length, once they are there
abbrev pub first_octets : ℕ → List ℕ → Option (List ℕ)
first_octets n rest = if nat_lt (length rest) n then None else Some (take n rest)

-- checks a length: its first bit, then the maximum
abbrev pub judged : ℕ → ℕ → List ℕ → Front
judged greatest n rest =
    if nat_le high_bit n then Err HighBit
    else if nat_lt greatest n then Err TooLong
    else Ok (first_octets n rest)

-- the front of a stream. The length is checked once its four bytes are there
unfoldable pub front : ℕ → List ℕ → Front
front greatest bytes =
    if nat_lt (length bytes) 4 then Ok None
    else judged greatest (from_be_bytes w32 (take 4 bytes)) (drop 4 bytes)
