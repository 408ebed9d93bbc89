use Rattle.std.proofs.Common.{rules, ◌≡◌, ◌∙◌, ap, arith, sym, Some, None}
use Rattle.std.proofs.lemmas.Str.Pattern.{split_parts}
use Rattle.kadm_changes.specs.Patterns.{fits, some_end}
use Rattle.kadm_changes.proofs.Fitting.{after_first, ends_part, lacks_part}
use Rattle.kadm_changes.proofs.patterns.has_end.Goals as goal

pub returns-in_default-split_once : goal.returns-in_default-split_once
returns-in_default-split_once c =
    let (split, free) = split_parts 0x2A c.loop-part.pattern.now (Some (c.in-Some.part, c.in-Some.rest)) c.in-Some.ensures.cases (omega arith) in
    record {
      fits = sym (c.loop-part.invariant.2
          ∙ ap (λ pattern. some_end (fits pattern) c.loop-part.left.now) split
          ∙ lacks_part c.in-Some.part.now c.in-Some.rest.now c.loop-part.left.now free c.in_default-split_once.ensures.cases);
    }

pub loop-part-preserved : goal.loop-part-preserved
loop-part-preserved c =
    let (split, free) = split_parts 0x2A c.loop-part.pattern.now (Some (c.in-Some.part, c.in-Some.rest)) c.in-Some.ensures.cases (omega arith) in (
      search rules,
      search rules,
      c.loop-part.invariant.2
          ∙ ap (λ pattern. some_end (fits pattern) c.loop-part.left.now) split
          ∙ after_first c.in-Some.part.now c.in-Some.rest.now c.loop-part.left.now c.in-Some-split_once.behind.now free c.in-Some-split_once.ensures.cases,
    )

pub returns : goal.returns
returns c =
    let free = split_parts 0x2A c.loop-part.pattern.now None c.in_default.ensures.cases (omega arith) in
    record {
      fits = ends_part c.ends_with.result c.loop-part.pattern.now c.loop-part.left.now free c.ends_with.ensures.cases
          ∙ sym c.loop-part.invariant.2;
    }
