use Rattle.std.proofs.Common.{length, sym, ap, ◌∙◌}
use Rattle.std.specs.FinMap.{len-entries, entries-from_sorted}
use Rattle.std.specs.FinMap as map
use Rattle.replay.specs.Stamp.{stamp_cmp}
use Rattle.replay.proofs.pairs.Pairs.len.Goals as goal

pub returns : goal.returns
returns g c =
    c.len.ensures.len
    ∙ (ap length (sym (entries-from_sorted stamp_cmp c.self.inside.kept.entries c.self.invariant)) ∙ (sym (len-entries _) ∙ ap map.len c.self.view_is))
