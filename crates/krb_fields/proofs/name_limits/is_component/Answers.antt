use Rattle.std.proofs.Common.{◌∙◌, sym, arith}
use Rattle.krb_fields.specs.NameLimitsLaws.{by_length}
use Rattle.krb_fields.proofs.name_limits.is_component.Goals as goal

pub returns-then-not-is_empty : goal.returns-then-not-is_empty
returns-then-not-is_empty c = by_length c.args.octets.now (λ i. omega (arith, c.type_inv.octets i)) (sym c.is_empty.ensures ∙ c.if-not-is_empty.true)
