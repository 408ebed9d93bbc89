use Rattle.std.proofs.Common.{rules, ◌≡◌, true}
use Rattle.std.specs.Prelude.{nat_eq}
use Rattle.std.specs.Cmp.Lexicographic.{pointwise}
use Rattle.tgs_exchange.proofs.answering.repeated.Goals as goal

pub returns-clause-reply : goal.returns-clause-reply
returns-clause-reply c =
    let same : pointwise nat_eq c.args.incoming.now.octets c.args.kept.now.request ≡ true = search rules in search rules

pub returns-clause-outcome : goal.returns-clause-outcome
returns-clause-outcome c =
    let same : pointwise nat_eq c.args.incoming.now.octets c.args.kept.now.request ≡ true = search rules in search rules
