-- The empty replay cache of a client, and what is left of a cache after a tidying.
use Rattle.std.specs.Prelude.{ℕ, ℤ, pos, ◌+ℤ◌, ◌-ℤ◌, Bool, ◌&&◌, nat_eq, List, [], ◌∷◌, Option, Some, None}
use Rattle.std.specs.Prelude.{if◌then◌else◌}
use Rattle.std.specs.Int.{int_max}
use Rattle.std.specs.Ordering.{int_eq}
use Rattle.std.specs.FinMap as map
use Rattle.replay.specs.declared.failures.Failures.{Failures}
use Rattle.replay.specs.declared.cache.ReplayCache.{ReplayCache}
use Rattle.replay.specs.Failures.{no_failures}
use Rattle.replay.specs.ReplayCache.{floor_at}
use Rattle.replay.specs.Stamp.{Stamp, is_from}

-- nothing recorded, with this floor
abbrev pub empty_cache : {T : Type 0} → ℤ → ReplayCache T
empty_cache floor = record { failures = no_failures; floor = floor; pairs = map.empty }

-- the failures are those of a client that never failed
abbrev pub never_failed : Failures → Bool
never_failed f = nat_eq f.count 0 && nat_eq f.version 0 && int_eq f.last.sec (pos 0) && nat_eq f.last.usec 0

-- whether nothing is recorded, and the floor is this one
abbrev pub is_empty : {T : Type 0} → ℤ → ReplayCache T → Bool
is_empty floor m = never_failed m.failures && int_eq m.floor floor && nat_eq (map.len m.pairs) 0

-- the seconds of a day
abbrev pub day : ℕ
day = 86400

-- the floor that a tidying at a second leaves to a client with nothing recorded: not below that second minus a day
abbrev pub floor_on : ℤ → ℤ → ℤ
floor_on floor now = int_max floor (now -ℤ pos day)

-- the floor, raised above each of these pairs whose ctime is before the second `start`
abbrev pub raised : {T : Type 0} → ℤ → ℤ → List (Stamp × T) → ℤ
raised start floor [] = floor
raised start floor (e ∷ es) =
    if is_from start e.0 then raised start floor es else int_max (raised start floor es) (e.0.0 +ℤ pos 1)

-- the floor, raised above one pair in the same way, if there is one
abbrev pub raised_if : {T : Type 0} → ℤ → ℤ → Option (Stamp × T) → ℤ
raised_if start floor None = floor
raised_if start floor (Some e) = raised start floor (e ∷ [])

-- The pairs that are too old to come again at a second are dropped. The floor is raised above them, and to a day
-- before that second. The failures are unchanged.
abbrev pub tidied : {T : Type 0} → ReplayCache T → ℤ → ReplayCache T
tidied m now = record m {
  floor = floor_on (raised (floor_at m.floor now) m.floor (map.entries m.pairs)) now;
  pairs = map.retain_keys m.pairs (is_from (floor_at m.floor now));
}
