use Rattle.std.proofs.Common.{◌≡◌, ◌∙◌, ap, arith, sym, Some, None}
use Rattle.std.proofs.lemmas.Str.Pattern.{split_parts}
use Rattle.kadm_changes.specs.Patterns.{fits}
use Rattle.kadm_changes.proofs.Fitting.{after_front, lacks_front, whole_part}
use Rattle.kadm_changes.proofs.patterns.is_like.Goals as goal

pub returns-in_default : goal.returns-in_default
returns-in_default c =
    let free = split_parts 0x2A c.args.pattern.now None c.in_default.ensures.cases (omega arith) in
    record { fits = c.eq.ensures ∙ whole_part c.args.pattern.now c.args.text.now free }

pub returns-in-Some-strip_prefix : goal.returns-in-Some-strip_prefix
returns-in-Some-strip_prefix c =
    let (split, free) = split_parts 0x2A c.args.pattern.now (Some (c.in-Some.front, c.in-Some.rest)) c.in-Some.ensures.cases (omega arith) in
    record {
      fits = c.has_end.ensures.fits
          ∙ after_front c.in-Some.front.now c.in-Some.rest.now c.args.text.now c.in-Some-strip_prefix.left.now free c.in-Some-strip_prefix.ensures.cases
          ∙ ap (λ pattern. fits pattern c.args.text.now) (sym split);
    }

pub returns-in-None : goal.returns-in-None
returns-in-None c =
    let (split, free) = split_parts 0x2A c.args.pattern.now (Some (c.in-Some.front, c.in-Some.rest)) c.in-Some.ensures.cases (omega arith) in
    record {
      fits = lacks_front c.in-Some.front.now c.in-Some.rest.now c.args.text.now free c.in-None.ensures.cases
          ∙ ap (λ pattern. fits pattern c.args.text.now) (sym split);
    }
