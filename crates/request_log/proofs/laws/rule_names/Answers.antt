use Rattle.request_log.proofs.Named.{as_distinct, tgs_distinct}
use Rattle.request_log.proofs.laws.rule_names.Goals as goal

pub returns-clause-as_rules : goal.returns-clause-as_rules
returns-clause-as_rules c = as_distinct

pub returns-clause-tgs_rules : goal.returns-clause-tgs_rules
returns-clause-tgs_rules c = tgs_distinct
