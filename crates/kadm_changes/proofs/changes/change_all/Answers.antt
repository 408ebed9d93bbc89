use Rattle.std.proofs.Common.{◌∙◌}
use Rattle.kadm_changes.specs.Asking.{all_asked}
use Rattle.kadm_changes.specs.Changing.{IsNamedChanged}
use Rattle.kadm_changes.proofs.Making.{made_end, made_on}
use Rattle.kadm_changes.proofs.changes.change_all.Goals as goal

pub loop-rest-preserved : goal.loop-rest-preserved
loop-rest-preserved g c = (
  c.in_ok-change_named.ensures.unchanged ∙ c.loop-rest.invariant.0,
  made_on (λ text. text.now) (λ world. IsNamedChanged world (all_asked c.args.target.now.settings.items) c.args.how) _ _ _ _ c.loop-rest.rest.now _
      c.loop-rest.draft.database c.change_named.new.draft.database c.loop-rest.invariant.0 c.in-len1-up.len_at_least c.loop-rest.invariant.1
      c.in_ok-change_named.ensures.changed,
)

pub returns-clause-changed : goal.returns-clause-changed
returns-clause-changed g c =
    made_end (λ text. text.now) (λ world. IsNamedChanged world (all_asked c.args.target.now.settings.items) c.args.how) _ _ _ c.loop-rest.rest.now
    c.loop-rest.draft.database c.in_default.len_below c.loop-rest.invariant.1
