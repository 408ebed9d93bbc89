use Rattle.framing.proofs.Splittings.{same_in_pieces}
use Rattle.framing.proofs.laws.any_pieces.Goals as goal

pub returns : goal.returns
returns c = same_in_pieces
