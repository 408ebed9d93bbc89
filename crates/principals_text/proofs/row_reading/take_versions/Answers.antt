use Rattle.std.proofs.Common.{rules, ◌≡◌, [], ◌∷◌, ◌++◌, IsTrue, Some, sym, ap, subst, ◌∙◌}
use Rattle.json.specs.Json.{after_end_array}
use Rattle.principals_text.specs.RowWritten.{version_value, versions_value}
use Rattle.principals_text.specs.Tokens.{data_tokens, values_tokens}
use Rattle.principals_text.proofs.RowByRow.{if_ok}
use Rattle.principals_text.proofs.TakenTokens.{value_taken, array_taken, shorter}
use Rattle.principals_text.proofs.row_reading.take_versions.Goals as goal

pub loop-alloc-init : goal.loop-alloc-init
loop-alloc-init c =
    let none : c.in-Ok.empty.items ≡ [] = search rules in
    ap (λ l. values_tokens version_value l ++ c.takes_array.new.reader) (sym none)

pub loop-alloc-smaller : goal.loop-alloc-smaller
loop-alloc-smaller c =
    let same : c.take_end_array.new.self ≡ c.loop-alloc.reader = search rules in
    shorter (version_value c.in_ok-version.version) c.loop-alloc.reader c.take_version.new.reader (sym same ∙ c.in_ok-version.ensures)

pub loop-alloc-preserved : goal.loop-alloc-preserved
loop-alloc-preserved c =
    let l = c.loop-alloc in
    let same : c.take_end_array.new.self ≡ c.loop-alloc.reader = search rules in
    let made = if_ok c.push.result c.in_ok-ok.field-0 c.push.new.self.items (l.versions.items ++ c.in_ok-version.version ∷ []) l.versions.items c.push.ensures.items c.in_ok-ok.ensures.value in
    value_taken version_value c.takes_array.new.reader l.reader c.take_version.new.reader l.versions.items c.push.new.self.items c.in_ok-version.version l.invariant (sym same ∙ c.in_ok-version.ensures) made

pub returns-clause-tokens : goal.returns-clause-tokens
returns-clause-tokens c =
    let l = c.loop-alloc in
    let begins : IsTrue c.takes_array.result = search rules in
    let ended : after_end_array c.loop-alloc.reader ≡ Some c.take_end_array.new.self = search rules in
    let is : c.in_ok-versions.versions ≡ c.loop-alloc.versions.items = search rules in
    subst (λ xs. c.args.reader.now ≡ data_tokens (versions_value xs) ++ c.take_end_array.new.self) (sym is)
    (array_taken version_value c.args.reader.now c.takes_array.new.reader l.reader c.take_end_array.new.self l.versions.items (c.takes_array.ensures begins) l.invariant ended)
