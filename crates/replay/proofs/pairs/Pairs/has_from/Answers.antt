use Rattle.std.proofs.Common.{rules, ◌≡◌, ◌-◌, ◌≤◌, length, subst, sym, SFits, w64}
use Rattle.std.proofs.lemmas.Int.{to_z-of_z}
use Rattle.std.proofs.lemmas.Iterator.Consumers.{nth_from_yields_List, YieldsList-from_rest}
use Rattle.std.specs.Map.Iter.{deref_pair}
use Rattle.replay.proofs.Before.{too_few, enough}
use Rattle.replay.proofs.pairs.Pairs.has_from.Goals as goal

pub returns-in_default : goal.returns-in_default
returns-in_default g c =
    too_few c.args.start c.self.inside.kept.entries c.args.self.now c.args.number c.self.invariant c.self.view_is
    (λ le. c.in_default.ensures (subst (λ n. c.args.number ≤ n) (sym c.len.ensures.len) le))

pub returns : goal.returns
returns g c =
    let fits : SFits w64 c.args.start = c.ranges.start in
    let between = simp to_z-of_z at (c.range.ensures.between tt) in
    let le : c.args.number ≤ length c.self.inside.kept.entries = search rules in
    let beyond : c.in-Some.beyond ≡ length c.self.inside.kept.entries - c.args.number = search rules in
    enough deref_pair c.args.start c.self.inside.kept.entries c.args.self.now c.args.number c.in-Some.beyond c.nth.result c.is_none.result c.self.invariant c.self.view_is le beyond
    (nth_from_yields_List c.nth.result c.nth.new.self c.in-Some.beyond c.nth.ensures.ran (YieldsList-from_rest _ between)) c.is_none.ensures
