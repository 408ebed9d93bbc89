use Rattle.std.proofs.Common.{◌≡◌}
use Rattle.krb_fields.specs.Name.{name_cmp}
use Rattle.principals.proofs.split_name.compare_components.Given as goal

-- comparing the rest of both sides gives the result for the whole
abbrev pub invariant-loop-other : goal.invariant-loop-other
invariant-loop-other l = name_cmp l.rest l.other-iterator ≡ name_cmp l.components l.borrowed
