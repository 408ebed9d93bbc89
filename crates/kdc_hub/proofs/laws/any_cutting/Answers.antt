use Rattle.kdc_hub.proofs.Cuts.{same_run}
use Rattle.kdc_hub.proofs.Owning.{asks_its_own}
use Rattle.kdc_hub.proofs.Working.{same_replies}
use Rattle.kdc_hub.proofs.laws.any_cutting.Goals as goal

pub returns-clause-replies : goal.returns-clause-replies
returns-clause-replies c = same_replies

pub returns-clause-two_pieces : goal.returns-clause-two_pieces
returns-clause-two_pieces c = same_run c.two_pieces.ensures

pub returns-clause-own_bytes : goal.returns-clause-own_bytes
returns-clause-own_bytes c = asks_its_own c.two_pieces.ensures
