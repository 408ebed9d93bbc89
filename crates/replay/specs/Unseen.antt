-- What a tidying drops can't come again.
use Rattle.std.specs.Prelude.{◌≡◌, ℕ, ℤ, ◌≤ℤ◌}
use Rattle.replay.specs.declared.cache.ReplayCache.{ReplayCache}
use Rattle.replay.specs.ReplayCache.{verdict}
use Rattle.replay.specs.Stamp.{Stamp}
use Rattle.replay.specs.Tidied.{tidied}

-- at that second or later a tidied cache gives every authenticator the verdict that it would give untidied
abbrev pub TidiedUnseen : Type 0 → Type 0
TidiedUnseen T = (m : ReplayCache T) (at now : ℤ) (stamp : Stamp) (limit : ℕ) → at ≤ℤ now
    → verdict (tidied m at) now stamp limit ≡ verdict m now stamp limit
