use Rattle.std.proofs.Common.{◌≡◌, subst}
use Rattle.std.specs.Prelude.{IfOk}
use Rattle.krb_types.specs.ApReq.{ApReq}
use Rattle.krb_types.proofs.ApCopyLaws.{ap_req_copied}
use Rattle.krb_types.proofs.ap_req.copied.Goals as goal

pub returns : goal.returns
returns c = subst (λ (x : ApReq). IfOk c.copy.result (λ copy. copy ≡ x)) (ap_req_copied c.args.found.now) c.copy.ensures
