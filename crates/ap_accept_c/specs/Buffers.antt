-- Bytes in the caller's buffer.
use Rattle.std.specs.Prelude.{◌≡◌, ◌<◌, ◌-◌, ℕ, List, ◌++◌, length, take, drop, min, nat_eq, slice_set, if◌then◌else◌}
use Rattle.ap_accept_c.specs.declared.status.Status.{Status}
use Rattle.ap_accept_c.specs.declared.status.Status.TheVariants.{Done, TooSmall}

-- the bytes are at the front and the rest is unchanged; or the buffer is too small and unchanged
abbrev pub IsGiven : Status → List ℕ → List ℕ → List ℕ → Type 0
IsGiven Done octets old new = new ≡ octets ++ drop (length octets) old
IsGiven TooSmall octets old new = (length old < length octets) × (new ≡ old)
IsGiven status octets old new = ⊥

abbrev pub texted_in : ℕ → List ℕ → List ℕ → List ℕ
texted_in kept text old = slice_set (take kept text ++ drop kept old) kept 0

-- as much of a text as leaves room for a NUL, then the NUL, then the old contents
abbrev pub texted : List ℕ → List ℕ → List ℕ
texted text old = if nat_eq (length old) 0 then old else texted_in (min (length text) (length old - 1)) text old
