use Rattle.std.proofs.Common.{◌∙◌, ◌++◌, ap}
use Rattle.kadm_changes.specs.Asking.{all_asked}
use Rattle.kadm_changes.specs.Texts.{texts}
use Rattle.kadm.specs.Assigning.{setting_at}
use Rattle.kadm.specs.Values.{listed}
use Rattle.kadm.proofs.Gathering.{found_end, found_on}
use Rattle.kadm.proofs.assigning.read_settings.Goals as goal

pub loop-rest-preserved : goal.loop-rest-preserved
loop-rest-preserved c =
    found_on (λ word others. listed (setting_at (texts c.args.words.now) word others)) c.loop-rest.rest.now _ _ _ _ c.in-len1-up.len_at_least
    c.loop-rest.invariant
    (c.in_ok-push_setting.ensures ∙ ap (λ setting. all_asked c.loop-rest.settings.items ++ listed setting) c.setting_at-setting.ensures)

pub returns : goal.returns
returns c =
    found_end (λ word others. listed (setting_at (texts c.args.words.now) word others)) c.loop-rest.rest.now _ _ c.in_default.len_below
    c.loop-rest.invariant
