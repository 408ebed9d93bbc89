use Rattle.std.proofs.Common.{subst}
use Rattle.kadm_changes.specs.Granting.{IsGranted}
use Rattle.kadm_changes.proofs.granting.give_password.Goals as goal

pub returns-clause-given : goal.returns-clause-given
returns-clause-given g c = (
  c.give.new.draft.database,
  subst (λ keys. IsGranted c.args.grant c.args.to.now.who.now.components keys c.args.draft.now.database c.give.new.draft.database) c.in_ok-keys.ensures c.in_ok-give.ensures,
  c.in_ok-clear_expiry.ensures,
)
