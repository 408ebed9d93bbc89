use Rattle.std.proofs.Common.{◌≡◌, ◌+◌, ℕ, List, arith, sym, ap, ◌∙◌}
use Rattle.std.specs.List.{sum_by}
use Rattle.std.specs.FinMap.{entries-from_sorted}
use Rattle.std.specs.FinMap as map
use Rattle.std.proofs.Math.Nat.{min-eq_left}
use Rattle.replay.specs.Sizes.{limited, size_of}
use Rattle.replay.specs.Stamp.{Stamp, stamp_cmp}
use Rattle.replay.specs.declared.keep.Kept.{Kept}
use Rattle.replay.proofs.sizes.Pairs+Kept.kept_bytes.Goals as goal

abbrev sizes : List (Stamp × Kept) → ℕ
sizes es = sum_by (λ entry. size_of entry.1) es

pub returns : goal.returns
returns c =
    let bytes = c.loop-kept.bytes in
    let none : bytes ≡ bytes + 0 = omega arith in
    sym (min-eq_left c.loop-kept.invariant.0)
    ∙ (ap (λ n. limited n) none
    ∙ (ap (λ es. limited (bytes + sizes es)) (sym c.in-None.ensures.steps.0)
    ∙ (c.loop-kept.invariant.1
    ∙ ap (λ es. limited (sizes es))
    (c.into_iter-kept-iterator.ensures.into_iter_gives.0 ∙ (sym (entries-from_sorted stamp_cmp c.self.inside.kept.entries c.self.invariant) ∙ ap map.entries c.self.view_is)))))
