use Rattle.principals_text.proofs.NameTexts.{name_of-text, name_of-none}
use Rattle.principals_text.proofs.text.read_name.Goals as goal

pub returns-in-Ok-clause-ok : goal.returns-in-Ok-clause-ok
returns-in-Ok-clause-ok c = name_of-text c.in-Ok.name.components c.args.text.now c.in-Ok.ensures.ok

pub returns-in-Err-BadName-clause-bad : goal.returns-in-Err-BadName-clause-bad
returns-in-Err-BadName-clause-bad c e = name_of-none c.args.text.now (λ n is. let memory = c.in-Err-BadName.ensures.read n is in cc)
