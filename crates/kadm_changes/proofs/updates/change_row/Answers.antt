use Rattle.std.proofs.Common.{subst}
use Rattle.std.proofs.lemmas.Result.{on_ok_weaker}
use Rattle.kadm_changes.specs.Changing.{AreSet}
use Rattle.kadm_changes.specs.Asking.{all_asked}
use Rattle.kadm_changes.proofs.updates.change_row.Goals as goal

pub returns-clause-changed : goal.returns-clause-changed
returns-clause-changed g c =
    on_ok_weaker c.set_all.result
    (λ set. (
      c.give_row.new.draft.database,
      c.in_ok-give_row.ensures.given,
      subst (λ world. AreSet world (all_asked c.args.target.now.settings.items) c.args.recipient.now.who.now.components c.give_row.new.draft.database c.set_all.new.draft.database)
          c.in_ok-give_row.ensures.unchanged set,
    ))
    c.set_all.ensures.set
