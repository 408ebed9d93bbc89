use Rattle.std.proofs.Common.{rules, ◌≡◌, [], ◌∷◌, ◌++◌, IsTrue, Some, sym, ap, subst, ◌∙◌}
use Rattle.json.specs.Json.{after_end_array}
use Rattle.principals_text.specs.RowWritten.{key_value, keys_value}
use Rattle.principals_text.specs.Tokens.{data_tokens, values_tokens}
use Rattle.principals_text.proofs.RowByRow.{if_ok}
use Rattle.principals_text.proofs.TakenTokens.{value_taken, array_taken, shorter}
use Rattle.principals_text.proofs.row_reading.take_keys.Goals as goal

pub loop-reader-init : goal.loop-reader-init
loop-reader-init c = ap (λ l. values_tokens key_value l ++ c.takes_array.new.reader) (sym c.new-keys.ensures.items)

pub loop-reader-smaller : goal.loop-reader-smaller
loop-reader-smaller c =
    let same : c.take_end_array.new.self ≡ c.loop-reader.reader = search rules in
    shorter (key_value c.in_ok-key.key) c.loop-reader.reader c.take_key.new.reader (sym same ∙ c.in_ok-key.ensures)

pub loop-reader-preserved : goal.loop-reader-preserved
loop-reader-preserved c =
    let l = c.loop-reader in
    let same : c.take_end_array.new.self ≡ c.loop-reader.reader = search rules in
    let made = if_ok c.push.result c.in_ok-ok.field-0 c.push.new.self.items (l.keys.items ++ c.in_ok-key.key ∷ []) l.keys.items c.push.ensures.items c.in_ok-ok.ensures.value in
    value_taken key_value c.takes_array.new.reader l.reader c.take_key.new.reader l.keys.items c.push.new.self.items c.in_ok-key.key l.invariant (sym same ∙ c.in_ok-key.ensures) made

pub returns : goal.returns
returns c =
    let l = c.loop-reader in
    let begins : IsTrue c.takes_array.result = search rules in
    let ended : after_end_array c.loop-reader.reader ≡ Some c.take_end_array.new.self = search rules in
    let is : c.in-Ok.list ≡ c.loop-reader.keys.items = search rules in
    subst (λ xs. c.args.reader.now ≡ data_tokens (keys_value xs) ++ c.take_end_array.new.self) (sym is)
    (array_taken key_value c.args.reader.now c.takes_array.new.reader l.reader c.take_end_array.new.self l.keys.items (c.takes_array.ensures begins) l.invariant ended)
