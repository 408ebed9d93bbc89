use Rattle.std.proofs.Common.{◌≡◌, subst}
use Rattle.std.specs.Prelude.{IfOk}
use Rattle.krb_types.specs.KdcRep.{KdcRep}
use Rattle.krb_types.specs.ReplyCopyLaws.{reply_copied}
use Rattle.krb_types.proofs.kdc_rep.copied.Goals as goal

pub returns : goal.returns
returns g c = subst (λ (x : KdcRep g.row.TYPE). IfOk c.copy.result (λ copy. copy ≡ x)) (reply_copied c.args.found.now) c.copy.ensures
