use Rattle.std.proofs.Common.{ap, is_eq, ◌∙◌}
use Rattle.krb_fields.specs.Name.{tied_exactly}
use Rattle.krb_fields.proofs.name.Name.is_same.Goals as goal

pub returns : goal.returns
returns c = rw (c.is_eq.ensures ∙ ap is_eq c.order.ensures) (tied_exactly c.args.self.now.components c.args.other.now.components)
