-- How much a replay cache holds.
use Rattle.std.specs.Prelude.{ℕ, ◌+◌, ◌-◌, ◌^◌, min, length}
use Rattle.std.specs.List.{sum_by}
use Rattle.std.specs.FinMap as map
use Rattle.replay.specs.Stamp.{stamp_cmp}
use Rattle.replay.specs.declared.keep.Kept.{Kept}

-- a count, which stops at the greatest `u64`
abbrev pub limited : ℕ → ℕ
limited n = min n (2 ^ 64 - 1)

-- the bytes of a request and of its reply
abbrev pub size_of : Kept → ℕ
size_of kept = length kept.request + length kept.reply

-- what is kept for all pairs
abbrev pub bytes_in : map.FinMap stamp_cmp Kept → ℕ
bytes_in pairs = sum_by (λ entry. size_of entry.1) (map.entries pairs)
