use Rattle.std.proofs.Common.{◌∙◌}
use Rattle.kadm.proofs.Batching.{done_turn, run_over, tried_turn}
use Rattle.kadm.proofs.Reading.{line_read, rest_read}
use Rattle.kadm.proofs.batch.run_each.Goals as goal

pub loop-rest-preserved : goal.loop-rest-preserved
loop-rest-preserved g c =
    let kept = c.report_progress.ensures.unchanged ∙ c.loop-rest.invariant.0 in (
      c.try_line.ensures.unchanged ∙ kept,
      done_turn _ _ _ _ _ _ c.loop-rest.rest.now c.line-item.result c.loop-rest.draft.database c.try_line.new.draft.database c.loop-rest.whole
          c.in_ok-whole.whole kept c.in-len1-up.len_at_least c.line-item.is c.loop-rest.invariant.1 c.in_ok-whole.ensures.turn,
      tried_turn _ _ _ _ _ _ c.loop-rest.rest.now c.line-item.result c.loop-rest.draft.database c.try_line.new.draft.database c.loop-rest.whole
          c.in_ok-whole.whole kept c.in-len1-up.len_at_least c.line-item.is c.loop-rest.invariant.2 c.in_ok-whole.ensures.turn,
      rest_read _ c.loop-rest.rest.now c.loop-rest.invariant.3,
    )

pub try_line-requires : goal.try_line-requires
try_line-requires g c = record {
  read = line_read _ _ c.loop-rest.rest.now c.line-item.result (c.report_progress.ensures.unchanged ∙ c.loop-rest.invariant.0)
      c.in-len1-up.len_at_least c.line-item.is c.loop-rest.invariant.3;
}

pub returns-clause-run : goal.returns-clause-run
returns-clause-run g c =
    run_over _ _ _ _ _ c.loop-rest.rest.now c.loop-rest.draft.database c.loop-rest.whole c.in_default.len_below c.loop-rest.invariant.1
    c.loop-rest.invariant.2
