use Rattle.std.proofs.Common.{◌≡◌, subst}
use Rattle.std.specs.Prelude.{IfOk}
use Rattle.krb_types.specs.Authenticator.{Authenticator}
use Rattle.krb_types.proofs.SealedCopyLaws.{authenticator_copied}
use Rattle.krb_types.proofs.authenticator.copied.Goals as goal

pub returns : goal.returns
returns c = subst (λ (x : Authenticator). IfOk c.copy.result (λ copy. copy ≡ x)) (authenticator_copied c.args.found.now) c.copy.ensures
