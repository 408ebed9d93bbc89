use Rattle.std.proofs.Common.{◌≡◌, subst}
use Rattle.std.specs.Prelude.{IfOk}
use Rattle.krb_types.specs.ReqBody.{ReqBody}
use Rattle.krb_types.specs.CopyLaws.{body_copied}
use Rattle.krb_types.proofs.kdc_req_owned.owned_body.Goals as goal

pub returns : goal.returns
returns c = subst (λ (x : ReqBody). IfOk c.copy.result (λ copy. copy ≡ x)) (body_copied c.args.body.now) c.copy.ensures
