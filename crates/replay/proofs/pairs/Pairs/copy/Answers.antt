use Rattle.std.proofs.Common.{T, ◌∷◌, subst, sym, ap, ◌∙◌}
use Rattle.std.specs.FinMap.{is_sorted}
use Rattle.std.proofs.lemmas.Map.Iter.{rest_more}
use Rattle.std.specs.Map.Iter.{deref_pair}
use Rattle.replay.specs.Stamp.{stamp_cmp}
use Rattle.replay.proofs.Stamps.{stamp_total}
use Rattle.rule_lists.proofs.Ordered.{copied}
use Rattle.replay.proofs.pairs.Pairs.copy.Goals as goal

pub loop-stamp-preserved-in_ok-insert : goal.loop-stamp-preserved-in_ok-insert
loop-stamp-preserved-in_ok-insert g c = copied stamp_cmp stamp_total c.into_iter-stamp-iterator.result c.loop-stamp.kept.entries c.insert.new.self.entries c.loop-stamp.stamp-iterator c.next.new.self c.in-Some.stamp.now c.in_ok-copy.field-0
    (subst (λ l. T (is_sorted stamp_cmp l)) (sym c.into_iter-stamp-iterator.ensures.into_iter_gives.0) c.self.invariant) c.loop-stamp.invariant
    (rest_more deref_pair _ _ _ _ c.in-Some.is c.next.ensures.steps ∙ ap (λ v. (c.in-Some.stamp.now, v) ∷ c.next.new.self) (sym c.in_ok-copy.ensures)) c.in_ok-insert.ensures.entries

pub loop-stamp-preserved : goal.loop-stamp-preserved
loop-stamp-preserved g c = copied stamp_cmp stamp_total c.into_iter-stamp-iterator.result c.loop-stamp.kept.entries c.insert.new.self.entries c.loop-stamp.stamp-iterator c.next.new.self c.in-Some.stamp.now c.in_ok-copy.field-0
    (subst (λ l. T (is_sorted stamp_cmp l)) (sym c.into_iter-stamp-iterator.ensures.into_iter_gives.0) c.self.invariant) c.loop-stamp.invariant
    (rest_more deref_pair _ _ _ _ c.in-Some.is c.next.ensures.steps ∙ ap (λ v. (c.in-Some.stamp.now, v) ∷ c.next.new.self) (sym c.in_ok-copy.ensures)) c.in_ok-insert.ensures.entries
