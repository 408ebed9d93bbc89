use Rattle.std.proofs.Common.{◌≡◌, map, take}
use Rattle.krb_fields.proofs.name.Name.new.Given as goal

abbrev pub invariant-loop-component : goal.invariant-loop-component
invariant-loop-component l = l.owned ≡ map (λ c. c.now) (take l.component-index l.components)
