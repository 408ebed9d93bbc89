-- The clock of a store.
use Rattle.std.specs.Prelude.{◌≡◌, pos, Option, IfSome}
use Rattle.krb_fields.specs.declared.moment.Moment.{Moment}
use Rattle.file_store.specs.World.{World}

-- the clock shows the second of this moment
abbrev pub IsShown : Option World → Moment → Type 0
IsShown world at = IfSome world (λ held. at.sec ≡ pos held.now)
