use Rattle.std.proofs.Common.{refl}
use Rattle.tgs_exchange.proofs.answering.refused_room.Goals as goal

pub returns-clause-kept : goal.returns-clause-kept
returns-clause-kept c = refl
