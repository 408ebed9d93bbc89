use Rattle.aes_cts.proofs.WordLaws.{added_is}
use Rattle.aes_cts.proofs.words.add_round_key.Goals as goal

pub returns : goal.returns
returns c =
    added_is c.args.state.now c.args.round_key.now _ _ _ _ c.told-state c.requires c.added.ensures c.added-2.ensures c.added-3.ensures c.added-4.ensures
