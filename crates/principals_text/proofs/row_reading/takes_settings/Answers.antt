use Rattle.std.proofs.Common.{rules, ◌≡◌, ◌<◌, length, get_or}
use Rattle.text_fields.specs.declared.settings.Setting.{Setting}
use Rattle.principals_text.proofs.TakenTokens.{setting_taken}
use Rattle.principals_text.proofs.row_reading.takes_settings.Goals as goal

pub loop-setting-preserved : goal.loop-setting-preserved
loop-setting-preserved c =
    let l = c.loop-setting in
    let within : c.loop-setting.setting-index < length c.args.settings.now = search rules in
    let here : ◌≡◌ {A = Setting} c.setting-item.result (get_or c.args.settings.now c.loop-setting.setting-index c.setting-item.result) = search rules in
    setting_taken c.args.settings.now l.setting-index c.setting-item.result c.in-Some.found c.args.policy.now l.policy c.on.result
    c.args.reader.now l.reader c.take_setting.new.reader within here l.invariant c.in-Some.ensures.tokens c.in-Some.ensures.field c.on.ensures
