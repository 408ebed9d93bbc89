use Rattle.std.proofs.Common.{refl}
use Rattle.mit_dump.proofs.principal.skip_logins.Goals as goal

pub returns : goal.returns
returns c = (
  c.in_ok-_succeeded._succeeded,
  c.in_ok-_failed._failed,
  c.in_ok-_count._count,
  (_, c.in_ok-_succeeded.ensures, (_, c.in_ok-_failed.ensures, (_, c.in_ok-_count.ensures, refl))),
)
