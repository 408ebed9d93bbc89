use Rattle.std.proofs.Common.{◌≡◌, take}
use Rattle.krb_fields.proofs.name.Name.copy.Given as goal

abbrev pub invariant-loop-component : goal.invariant-loop-component
invariant-loop-component l = l.components ≡ take l.component-index l.component-items
