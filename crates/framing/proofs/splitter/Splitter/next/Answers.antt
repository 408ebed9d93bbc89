use Rattle.std.proofs.Common.{rules, None, Some, arith}
use Rattle.std.proofs.lemmas.Grind.{common_steps}
use Rattle.framing.proofs.Splittings.{hands_message, hands_ending, left_none, left_message, has_message}
use Rattle.framing.proofs.splitter.Splitter.next.Goals as goal

pub returns-in_err-message-in-Ok-Some-clause-wanted : goal.returns-in_err-message-in-Ok-Some-clause-wanted
returns-in_err-message-in-Ok-Some-clause-wanted c = λ _. has_message _ c.in-Ok-Some.message.now (search rules) (grind (arith, common_steps))

pub returns-in_ok-message-in-Ok-Some-clause-message : goal.returns-in_ok-message-in-Ok-Some-clause-message
returns-in_ok-message-in-Ok-Some-clause-message c = hands_message _ _ _ (search rules) (grind (arith, common_steps)) (grind (arith, common_steps))

pub returns-in_ok-message-in-Ok-Some-clause-left : goal.returns-in_ok-message-in-Ok-Some-clause-left
returns-in_ok-message-in-Ok-Some-clause-left c = left_message _ _ c.in-Ok-Some.message.now (search rules) (grind (arith, common_steps)) (grind (arith, common_steps))

pub returns-in-Ok-None-clause-rest : goal.returns-in-Ok-None-clause-rest
returns-in-Ok-None-clause-rest c = λ _. hands_ending _ None (search rules) (search rules)

pub returns-in-Ok-None-clause-settled : goal.returns-in-Ok-None-clause-settled
returns-in-Ok-None-clause-settled c = λ _. left_none _ (search rules) (search rules)

pub returns-in-Err-clause-fault : goal.returns-in-Err-clause-fault
returns-in-Err-clause-fault c = λ _. hands_ending _ (Some c.in-Err.fault) (search rules) (search rules)
