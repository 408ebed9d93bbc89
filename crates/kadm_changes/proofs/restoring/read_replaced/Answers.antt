use Rattle.std.proofs.Common.{inr, subst}
use Rattle.file_store.specs.World.{IsRead}
use Rattle.principals_text.specs.RefusedBytes.{RefusesBytes}
use Rattle.kadm_changes.proofs.restoring.read_replaced.Goals as goal

pub returns-clause-there : goal.returns-clause-there
returns-clause-there g c =
    inr (
      c.in_ok-octets.octets.items,
      subst (λ world. IsRead world c.args.db.now c.in_ok-octets.octets.items) c.in_ok-has_file.ensures.unchanged c.in_ok-octets.ensures.read,
      c.in-Err.fault.cause,
      c.in_ok-check_memory-in-Err.ensures,
      subst (λ octets. RefusesBytes octets c.in-Err.fault.cause) c.deref.ensures.value c.in-Err.ensures.fault,
    )
