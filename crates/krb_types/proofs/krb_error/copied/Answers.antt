use Rattle.std.proofs.Common.{◌≡◌, subst}
use Rattle.std.specs.Prelude.{IfOk}
use Rattle.krb_types.specs.KrbError.{KrbError}
use Rattle.krb_types.specs.CopyLaws.{error_copied}
use Rattle.krb_types.proofs.krb_error.copied.Goals as goal

pub returns : goal.returns
returns c = subst (λ (x : KrbError). IfOk c.copy.result (λ copy. copy ≡ x)) (error_copied c.args.found.now) c.copy.ensures
