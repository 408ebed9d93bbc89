use Rattle.std.proofs.Common.{◌∙◌, ◌++◌, ap}
use Rattle.command_line.specs.Values.{value_at}
use Rattle.kadm_changes.specs.Texts.{texts}
use Rattle.kadm.specs.Values.{listed}
use Rattle.kadm.proofs.Gathering.{found_end, found_on}
use Rattle.kadm.proofs.values.option_values.Goals as goal

pub loop-rest-preserved : goal.loop-rest-preserved
loop-rest-preserved c =
    found_on (λ word others. listed (value_at c.args.option.now word others)) c.loop-rest.rest.now _ _ _ _ c.in-len1-up.len_at_least c.loop-rest.invariant
    (c.in_ok-push_value.ensures ∙ ap (λ value. texts c.loop-rest.values.items ++ listed value) c.value_at-value.ensures)

pub returns : goal.returns
returns c =
    found_end (λ word others. listed (value_at c.args.option.now word others)) c.loop-rest.rest.now _ _ c.in_default.len_below c.loop-rest.invariant
