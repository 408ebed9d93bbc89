use Rattle.std.proofs.Common.{◌≡◌, subst}
use Rattle.std.specs.Prelude.{IfOk}
use Rattle.krb_types.specs.EncApRepPart.{EncApRepPart}
use Rattle.krb_types.proofs.SealedCopyLaws.{enc_ap_rep_part_copied}
use Rattle.krb_types.proofs.enc_ap_rep_part.copied.Goals as goal

pub returns : goal.returns
returns c = subst (λ (x : EncApRepPart). IfOk c.copy.result (λ copy. copy ≡ x)) (enc_ap_rep_part_copied c.args.found.now) c.copy.ensures
