use Rattle.std.proofs.Common.{rules, ◌≡◌, take, drop}
use Rattle.std.proofs.lemmas.Result.{on_ok_weaker}
use Rattle.text_fields.specs.Settings.{before_keys, settings_of}
use Rattle.principals_text.proofs.RowTokens.{one_more, if_one_more, chain, row_written}
use Rattle.principals_text.proofs.row_tokens.write_row.Goals as goal

pub returns : goal.returns
returns c =
    let before : c.split_at.result.0.now ≡ take before_keys (settings_of c.args.row.now.policy) = search rules in
    let after : c.split_at.result.1.now ≡ drop before_keys (settings_of c.args.row.now.policy) = search rules in
    on_ok_weaker c.end_object.result (λ e.
    row_written c.args.row.now c.args.out.now c.end_object.new.self c.split_at.result.0.now c.split_at.result.1.now before after
    (chain (one_more c.in_ok-begin_object.ensures)
    (chain c.in_ok-write_settings.ensures
    (chain (one_more c.in_ok-key.ensures)
    (chain c.in_ok-write_versions.ensures
    (chain c.in_ok-write_settings-2.ensures e))))))
    (if_one_more c.end_object.result _ _ _ c.end_object.ensures)
