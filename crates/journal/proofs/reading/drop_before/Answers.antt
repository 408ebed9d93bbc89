use Rattle.std.proofs.Common.{rules}
use Rattle.std.specs.Prelude.{int_le}
use Rattle.std.proofs.lemmas.Fn.{filter_same}
use Rattle.journal.proofs.reading.drop_before.Goals as goal

pub returns : goal.returns
returns c = filter_same _ (λ e. int_le c.args.second e.ctime) _ (λ x b f called. search rules) _ _ c.retain.ensures.filtered
