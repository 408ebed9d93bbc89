use Rattle.std.proofs.Common.{◌≡◌, ◌≤◌, ◌+◌, ◌-◌, ◌^◌}
use Rattle.std.specs.Prelude.{min}
use Rattle.std.specs.List.{sum_by}
use Rattle.replay.specs.Sizes.{limited, size_of}
use Rattle.replay.proofs.sizes.Pairs+Kept.kept_bytes.Given as goal

abbrev pub invariant-loop-kept : goal.invariant-loop-kept
invariant-loop-kept l =
    (l.bytes ≤ 2 ^ 64 - 1)
    × (limited (l.bytes + sum_by (λ entry. size_of entry.1) l.kept-iterator) ≡ limited (sum_by (λ entry. size_of entry.1) l.initial.kept-iterator))
