use Rattle.std.proofs.Common.{◌∙◌}
use Rattle.kadm.proofs.Batching.{done_end, done_on, none_holds}
use Rattle.kadm.proofs.Reading.{line_read, rest_read}
use Rattle.kadm.proofs.batch.run_all.Goals as goal

pub loop-rest-preserved : goal.loop-rest-preserved
loop-rest-preserved g c = (
  c.run_line.ensures.unchanged ∙ c.report_progress.ensures.unchanged ∙ c.loop-rest.invariant.0,
  done_on _ _ _ _ _ _ c.loop-rest.rest.now c.line-item.result c.loop-rest.draft.database c.run_line.new.draft.database
      (c.report_progress.ensures.unchanged ∙ c.loop-rest.invariant.0) c.in-len1-up.len_at_least c.line-item.is c.loop-rest.invariant.1
      (none_holds c.in_ok-status.field-0 c.in_default-2.is c.in_ok-status.ensures.done),
  rest_read _ c.loop-rest.rest.now c.loop-rest.invariant.2,
)

pub run_line-requires : goal.run_line-requires
run_line-requires g c = record {
  read = line_read _ _ c.loop-rest.rest.now c.line-item.result (c.report_progress.ensures.unchanged ∙ c.loop-rest.invariant.0)
      c.in-len1-up.len_at_least c.line-item.is c.loop-rest.invariant.2;
}

pub returns-clause-done : goal.returns-clause-done
returns-clause-done g c =
    done_end _ _ _ _ _ c.loop-rest.rest.now c.loop-rest.draft.database c.in_default.len_below c.loop-rest.invariant.1
