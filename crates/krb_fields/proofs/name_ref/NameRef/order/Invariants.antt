use Rattle.std.proofs.Common.{◌≡◌}
use Rattle.krb_fields.specs.Name.{name_cmp}
use Rattle.krb_fields.proofs.name_ref.NameRef.order.Given as goal

-- comparing the rest of both sides gives the result for the whole
abbrev pub invariant-loop-ours : goal.invariant-loop-ours
invariant-loop-ours l = name_cmp l.ours-iterator l.theirs ≡ name_cmp l.self.components l.other.components
