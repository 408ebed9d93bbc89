use Rattle.std.proofs.Common.{◌≡◌, subst}
use Rattle.std.specs.Prelude.{IfOk}
use Rattle.krb_fields.specs.PrincipalName.{Name}
use Rattle.krb_fields.specs.NameCopyLaws.{name_copied}
use Rattle.krb_fields.proofs.name_ref.NameRef.to_name.Goals as goal

pub returns : goal.returns
returns c = subst (λ (x : Name). IfOk c.copy.result (λ copy. copy ≡ x)) (name_copied c.args.self.now) c.copy.ensures
