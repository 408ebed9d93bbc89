use Rattle.std.proofs.Common.{◌≡◌, ◌≤◌, ◌+◌, ◌-◌, ◌^◌, drop}
use Rattle.principal_rows.specs.NameMap.{pairs}
use Rattle.kdc_state.specs.Sizes.{bytes_of, pairs_of}
use Rattle.replay.specs.Sizes.{limited}
use Rattle.kdc_state.proofs.sizes.sizes_of.Given as goal

abbrev pub invariant-loop-entry : goal.invariant-loop-entry
invariant-loop-entry l =
    (l.authenticators ≤ 2 ^ 64 - 1) × (l.kept_bytes ≤ 2 ^ 64 - 1)
    × (limited (l.authenticators + pairs_of (pairs (drop l.entry-index l.caches))) ≡ limited (pairs_of (pairs l.caches)))
    × (limited (l.kept_bytes + bytes_of (pairs (drop l.entry-index l.caches))) ≡ limited (bytes_of (pairs l.caches)))
