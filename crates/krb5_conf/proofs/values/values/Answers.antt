use Rattle.std.proofs.Common.{◌++◌, arith, map, ap, ◌∙◌}
use Rattle.std.specs.Option.{option_to_list}
use Rattle.krb5_conf.specs.LinePlace.{behind, place_of}
use Rattle.krb5_conf.specs.Values.{value_by}
use Rattle.krb5_conf.proofs.LineLaws.{stepped}
use Rattle.krb5_conf.proofs.values.values.Goals as goal

pub loop-text-preserved : goal.loop-text-preserved
loop-text-preserved c =
    let line_is = c.read-line.ensures in
    let value_is = c.value_at.ensures ∙ ap (λ s. value_by (place_of c.args.wanted) c.args.tag.now (place_of c.loop-text.place) s) line_is in
    let found = c.in_ok-push_some.ensures ∙ ap (λ o. map (λ v. v.now) c.loop-text.values.items ++ option_to_list o) value_is in
    let moved = c.behind-place.ensures.place ∙ ap (λ s. behind (place_of c.loop-text.place) s) line_is in
    record {
      found =
          stepped (λ line. line.now) c.deref-text-items.result.now c.loop-text.text-index _
          (place_of c.args.wanted) c.args.tag.now (place_of c.loop-text.place) (place_of c.behind-place.result)
          (map (λ v. v.now) c.loop-text.values.items) (map (λ v. v.now) c.push_some.new.values.items) _
          c.loop-text-test.true found moved c.loop-text.invariant.found;
      depth = omega (arith, c.behind-place.ensures.depth, c.loop-text.invariant.depth);
    }
