use Rattle.prf_kdf.proofs.BlockFolds.{turned_right_is}
use Rattle.prf_kdf.proofs.fold.turned_right.Goals as goal

pub returns : goal.returns
returns c =
    rw c.from-word.ensures
    (turned_right_is c.args.bits c.args.turn c.args.word c.requires.bits c.requires.turn c.requires.word)
