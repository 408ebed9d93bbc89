use Rattle.std.proofs.Common.{rules, ◌≡◌, ◌<◌, ◌≤◌, [], ◌++◌, length, get_or, subst, refl}
use Rattle.std.proofs.lemmas.Result.{on_ok_weaker}
use Rattle.enctypes.specs.declared.key.Key.{Key}
use Rattle.principals_text.specs.RowWritten.{key_value, keys_value}
use Rattle.principals_text.specs.Tokens.{IsLonger, data_tokens}
use Rattle.principals_text.proofs.RowTokens.{none_more, one_more, if_one_more, chain, value_more, values_done, array_written}
use Rattle.principals_text.proofs.row_tokens.write_keys.Goals as goal

pub loop-key-init : goal.loop-key-init
loop-key-init c = ([], none_more c.begin_array.new.self, refl)

pub loop-key-preserved : goal.loop-key-preserved
loop-key-preserved c =
    let held = c.loop-key.invariant in
    let items = c.keys-key-items.result.now in
    let within : c.loop-key.key-index < length c.keys-key-items.result.now = search rules in
    let here : ◌≡◌ {A = Key} c.key-item.result (get_or c.keys-key-items.result.now c.loop-key.key-index c.key-item.result) = search rules in (
      held.0 ++ data_tokens (key_value c.key-item.result),
      chain held.1 c.in_ok-write_key.ensures,
      value_more key_value items c.loop-key.key-index c.key-item.result held.0 within here held.2,
    )

pub returns : goal.returns
returns c =
    let held = c.loop-key.invariant in
    let items = c.keys-key-items.result.now in
    let past : length c.keys-key-items.result.now ≤ c.loop-key.key-index = search rules in
    let all = values_done key_value items c.loop-key.key-index held.0 past held.2 in
    on_ok_weaker c.end_array.result (λ e.
    subst (λ keys. IsLonger c.args.out.now c.end_array.new.self (data_tokens (keys_value keys))) c.keys-key-items.ensures.keys
    (array_written key_value c.args.out.now c.begin_array.new.self c.loop-key.out c.end_array.new.self items held.0 (one_more c.in_ok-begin_array.ensures) held.1 all e))
    (if_one_more c.end_array.result _ _ _ c.end_array.ensures)
