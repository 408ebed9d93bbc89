-- The replay cache of one client: how it begins, its verdict on an authenticator, and how it records one.
use Rattle.std.specs.Prelude.{ℕ, ℤ, pos, ◌+◌, ◌+ℤ◌, ◌-ℤ◌, nat_le, ⊤, if◌then◌else◌, Option, Some, None}
use Rattle.std.specs.Borrow.{Bor}
use Rattle.std.specs.Int.{int_max}
use Rattle.std.specs.FinMap as map
use Rattle.krb_fields.specs.Skew.{skew}
use Rattle.replay.specs.declared.cache.ReplayCache.{ReplayCache}
use Rattle.replay.specs.declared.verdict.Verdict.{Verdict}
use Rattle.replay.specs.declared.verdict.Verdict.TheVariants.{Fresh, Skew, Repeat, Full}
use Rattle.replay.specs.Failures.{no_failures}
use Rattle.replay.specs.Stamp.{Stamp, is_from, is_beyond_clock_skew}

-- nothing recorded, and a floor that excludes no time: it is the skew before the start of 1970
abbrev pub first : {T : Type 0} → ReplayCache T
first = record { failures = no_failures; floor = pos 0 -ℤ pos skew; pairs = map.empty }

-- nothing recorded, and a floor one second above the last ctime that could be accepted before
abbrev pub restarted_cache : {T : Type 0} → ℤ → ReplayCache T
restarted_cache at = record { failures = no_failures; floor = at +ℤ pos (skew + 1); pairs = map.empty }

-- the floor at a second, which is not below that second minus the skew
abbrev pub floor_at : ℤ → ℤ → ℤ
floor_at floor now = int_max floor (now -ℤ pos skew)

-- how many of the recorded pairs have a ctime that is neither below the floor nor before now by more than the skew
abbrev pub recent : {T : Type 0} → ReplayCache T → ℤ → ℕ
recent m now = map.len (map.retain_keys m.pairs (is_from (floor_at m.floor now)))

abbrev pub if_kept : {T : Type 0} → Option T → Verdict T → Verdict T
if_kept (Some kept) other = Repeat kept
if_kept None other = other

-- the first of these that holds: the pair is outside the clock skew, it is recorded already, it would be one too many
abbrev pub verdict : {T : Type 0} → ReplayCache T → ℤ → Stamp → ℕ → Verdict T
verdict m now stamp limit =
    if is_beyond_clock_skew m.floor now stamp.0 then Skew
    else if_kept (map.get m.pairs stamp) (if nat_le limit (recent m now) then Full else Fresh)

-- a verdict with what its reference points to
abbrev pub verdict_copied : {T : Type 0} → Verdict (Bor T) → Verdict T
verdict_copied Fresh = Fresh
verdict_copied Skew = Skew
verdict_copied (Repeat kept) = Repeat kept.now
verdict_copied Full = Full

-- P holds if the verdict is that the pair is within the clock skew and no repeat
abbrev pub IfNew : {T : Type 0} → Verdict T → Type 0 → Type 0
IfNew Fresh P = P
IfNew Skew P = ⊤
IfNew (Repeat kept) P = ⊤
IfNew Full P = P

-- the floor raised, the pairs below it dropped, and this pair added with what is stored for it
abbrev pub recorded : {T : Type 0} → ReplayCache T → ℤ → Stamp → T → ReplayCache T
recorded m now stamp kept =
    record m {
      floor = floor_at m.floor now;
      pairs = map.insert (map.retain_keys m.pairs (is_from (floor_at m.floor now))) stamp kept;
    }
