-- The record of a part of a server, at first and where the part may be absent.
use Rattle.std.specs.Prelude.{List, [], Option, Some, None}
use Rattle.kdc_hub.specs.Wire.{Records}

-- the record of a part that may be absent, if it is there and keeps one
abbrev pub record_of : {P X : Type 0} → (P → Option (List X)) → Option P → Option (List X)
record_of recorded (Some part) = recorded part
record_of recorded None = None

-- nothing was recorded yet, or no record is kept
abbrev pub IsNew : {X : Type 0} → Option (List X) → Type 0
IsNew so_far = Records (Some []) [] so_far
