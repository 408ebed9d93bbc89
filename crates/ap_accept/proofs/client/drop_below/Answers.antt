use Rattle.std.proofs.Common.{rules}
use Rattle.std.proofs.lemmas.Fn.{filter_same}
use Rattle.replay.specs.Stamp.{is_from}
use Rattle.ap_accept.proofs.client.drop_below.Goals as goal

pub returns : goal.returns
returns c = filter_same _ (is_from c.args.floor) _ (λ x b f called. search rules) _ _ c.retain.ensures.filtered
