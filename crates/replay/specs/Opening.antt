-- The replay cache of a client that sent nothing since the opening.
use Rattle.std.specs.Prelude.{ℤ, pos, ◌+◌, ◌+ℤ◌, ◌-ℤ◌}
use Rattle.krb_fields.specs.Skew.{skew}
use Rattle.replay.specs.ReplayCache.{first, restarted_cache}
use Rattle.replay.specs.declared.cache.ReplayCache.{ReplayCache}
use Rattle.replay.specs.declared.opening.Opening.{Opening}
use Rattle.replay.specs.declared.opening.Opening.TheVariants.{First, Restart}

abbrev pub opened_cache : {T : Type 0} → Opening → ReplayCache T
opened_cache First = first
opened_cache (Restart at) = restarted_cache at.sec

-- its floor
abbrev pub opening_floor : Opening → ℤ
opening_floor First = pos 0 -ℤ pos skew
opening_floor (Restart at) = at.sec +ℤ pos (skew + 1)
