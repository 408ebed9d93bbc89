use Rattle.std.proofs.Common.{◌≡◌, take}
use Rattle.krb_fields.specs.Salt.{default_salt}
use Rattle.krb_fields.proofs.salt.Name.salt.Given as goal

abbrev pub invariant-loop-component : goal.invariant-loop-component
invariant-loop-component l = l.salt.items ≡ default_salt l.realm (take l.component-index l.component-items)
