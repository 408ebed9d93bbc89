use Rattle.framing.proofs.Splittings.{same_in_two}
use Rattle.framing.proofs.laws.two_pieces.Goals as goal

pub returns : goal.returns
returns c = same_in_two
