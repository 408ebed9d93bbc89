use Rattle.std.proofs.Common.{rules, ◌≡◌, ◌<◌, ◌≤◌, length, get_or}
use Rattle.text_fields.specs.declared.settings.Setting.{Setting}
use Rattle.principals_text.proofs.RowTokens.{none_more, setting_written, settings_written}
use Rattle.principals_text.proofs.row_tokens.write_settings.Goals as goal

pub loop-setting-init : goal.loop-setting-init
loop-setting-init c = none_more c.args.out.now

pub loop-setting-preserved : goal.loop-setting-preserved
loop-setting-preserved c =
    let l = c.loop-setting in
    let within : c.loop-setting.setting-index < length c.args.settings.now = search rules in
    let here : ◌≡◌ {A = Setting} c.setting-item.result (get_or c.args.settings.now c.loop-setting.setting-index c.setting-item.result) = search rules in
    setting_written c.args.out.now l.out c.write_setting.new.out c.args.settings.now l.setting-index c.setting-item.result
    within here l.invariant c.in_ok-write_setting.ensures

pub returns : goal.returns
returns c =
    let past : length c.args.settings.now ≤ c.loop-setting.setting-index = search rules in
    settings_written c.args.out.now c.loop-setting.out c.args.settings.now c.loop-setting.setting-index past c.loop-setting.invariant
