use Rattle.std.proofs.Common.{rules, ◌≡◌, IsTrue, take, drop}
use Rattle.text_fields.specs.Settings.{before_keys, settings_of}
use Rattle.principals_text.proofs.TakenTokens.{row_taken}
use Rattle.principals_text.proofs.row_reading.take_row.Goals as goal

pub returns-clause-tokens : goal.returns-clause-tokens
returns-clause-tokens c =
    let opens : IsTrue c.takes_object.result = search rules in
    let first : IsTrue c.takes_settings.result = search rules in
    let named : IsTrue c.takes_name.result = search rules in
    let second : IsTrue c.takes_settings-2.result = search rules in
    let ended : IsTrue c.takes_object_end.result = search rules in
    let before : c.split_at.result.0.now ≡ take before_keys (settings_of c.default-policy.result) = search rules in
    let after : c.split_at.result.1.now ≡ drop before_keys (settings_of c.default-policy.result) = search rules in
    row_taken c.args.reader.now c.takes_object.new.reader c.takes_settings.new.reader c.takes_name.new.reader
    c.take_versions.new.reader c.takes_settings-2.new.reader c.takes_object_end.new.reader
    c.split_at.result.0.now c.split_at.result.1.now c.in_ok-versions.versions
    c.default-policy.result c.takes_settings.new.policy c.takes_settings-2.new.policy before after
    (c.takes_object.ensures opens)
    (c.takes_settings.ensures first)
    (c.takes_name.ensures named)
    c.in_ok-versions.ensures.tokens
    (c.takes_settings-2.ensures second)
    (c.takes_object_end.ensures ended)
