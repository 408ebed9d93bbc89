use Rattle.std.proofs.Common.{◌∙◌}
use Rattle.kadm_changes.specs.Asking.{asked_of}
use Rattle.kadm_changes.specs.Changing.{SetBy}
use Rattle.kadm_changes.proofs.Making.{made_end, made_on}
use Rattle.kadm_changes.proofs.changes.set_all.Goals as goal

pub loop-rest-preserved : goal.loop-rest-preserved
loop-rest-preserved g c = (
  c.in_ok-set_policy.ensures.unchanged ∙ c.loop-rest.invariant.0,
  made_on asked_of (λ world. SetBy world c.args.who.now.components) _ _ _ _ c.loop-rest.rest.now _ c.loop-rest.draft.database
      c.set_policy.new.draft.database c.loop-rest.invariant.0 c.in-len1-up.len_at_least c.loop-rest.invariant.1 c.in_ok-set_policy.ensures.changed,
)

pub returns-clause-set : goal.returns-clause-set
returns-clause-set g c =
    made_end asked_of (λ world. SetBy world c.args.who.now.components) _ _ _ c.loop-rest.rest.now c.loop-rest.draft.database
    c.in_default.len_below c.loop-rest.invariant.1
