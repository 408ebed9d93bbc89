use Rattle.framing.proofs.Cuttings.{cuts_what_was_framed}
use Rattle.framing.proofs.laws.cuts_what_was_framed.Goals as goal

pub returns : goal.returns
returns c = cuts_what_was_framed
