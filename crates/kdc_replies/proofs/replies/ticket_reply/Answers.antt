use Rattle.krb_types.specs.KdcRep.{kdc_rep}
use Rattle.kdc_replies.proofs.Results.{respelled}
use Rattle.kdc_replies.proofs.replies.ticket_reply.Goals as goal

pub returns-clause-spelled : goal.returns-clause-spelled
returns-clause-spelled g c =
    respelled (kdc_rep _).Spells (λ v. v.items) _ _ c.write.result c.in_ok-reply.ensures.value c.write.ensures.spelled
