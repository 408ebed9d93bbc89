use Rattle.principals_text.proofs.NameTexts.{component_of-text, component_of-none}
use Rattle.principals_text.proofs.text.read_component.Goals as goal

pub returns-in-Ok-clause-ok : goal.returns-in-Ok-clause-ok
returns-in-Ok-clause-ok c = component_of-text c.in-Ok.octets c.args.text.now c.in-Ok.ensures.ok

pub returns-in-Err-BadName-clause-bad : goal.returns-in-Err-BadName-clause-bad
returns-in-Err-BadName-clause-bad c e = component_of-none c.args.text.now (λ o is. let memory = c.in-Err-BadName.ensures.read o is in cc)
