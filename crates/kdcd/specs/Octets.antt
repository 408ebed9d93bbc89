-- The bytes of an input.
use Rattle.std.specs.Prelude.{ℕ, if◌then◌else◌, List, [], Option, Some}
use Rattle.std.specs.Io.Buffered.{reader_remaining}
use Rattle.std.specs.Io.Iter.{bytes_remaining}
use Rattle.kdcd.specs.declared.octets.Octets.{Octets}

-- the remaining bytes, if they are known
abbrev pub octets_of : {R : Type 0} → (R → Option (List ℕ)) → Octets R → Option (List ℕ)
octets_of remaining octets = if octets.ended then Some [] else bytes_remaining (reader_remaining remaining) octets.bytes
