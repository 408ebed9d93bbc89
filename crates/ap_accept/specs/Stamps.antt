-- A replay cache with these stamps.
use Rattle.std.specs.Prelude.{ℤ, ⊤, List, [], ◌∷◌}
use Rattle.std.specs.FinMap as map
use Rattle.replay.specs.Failures.{no_failures}
use Rattle.replay.specs.Stamp.{Stamp, is_from, stamp_cmp}
use Rattle.replay.specs.declared.cache.ReplayCache.{ReplayCache}

abbrev pub Stamps : Type 0
Stamps = map.FinMap stamp_cmp ⊤

-- the stamps of a map, and these
unfoldable pub with_stamps : Stamps → List Stamp → Stamps
with_stamps m [] = m
with_stamps m (s ∷ stamps) = with_stamps (map.insert m s tt) stamps

-- those of these stamps that are not below the floor
abbrev pub listed : ℤ → List Stamp → Stamps
listed floor stamps = map.retain_keys (with_stamps map.empty stamps) (is_from floor)

abbrev pub cache_with : ℤ → List Stamp → ReplayCache ⊤
cache_with floor stamps = record { failures = no_failures; floor = floor; pairs = listed floor stamps }
