use Rattle.std.proofs.Common.{rules, ◌≡◌, ◌++◌, ◌∷◌, [], ap, sym, subst, ◌∙◌}
use Rattle.json.specs.Print.{print}
use Rattle.json.specs.Token.{begin_object, end_object}
use Rattle.request_log.specs.Entry.{entry_fields}
use Rattle.request_log.specs.Lines.{IsLine, fields_tokens}
use Rattle.request_log.proofs.Printed.{is_json_line}
use Rattle.request_log.proofs.Shown.{from_none}
use Rattle.request_log.proofs.json_lines.json_line.Goals as goal

pub returns-clause-text : goal.returns-clause-text
returns-clause-text c =
    let fields = entry_fields c.args.entry.now in
    let begun : c.begin_object.new.self.tokens ≡ begin_object ∷ [] = search rules in
    let none : c.begin_object.new.self.before ≡ [] = search rules in
    let made = c.in_ok-put_entry.ensures [] (record { tokens = begun; before = none }) in
    let tokens : c.put_entry.new.line.out.tokens ≡ fields_tokens (begin_object ∷ []) fields = made.tokens ∙ ap (fields_tokens (begin_object ∷ [])) (from_none fields) in
    let before : c.put_entry.new.line.out.before ≡ [] = made.before in
    let ended : c.end_object.new.self.tokens ≡ c.put_entry.new.line.out.tokens ++ end_object ∷ [] = search rules in
    let kept : c.end_object.new.self.before ≡ c.put_entry.new.line.out.before = search rules in
    c.in_ok-push.ensures.items ∙ ap (λ line. line ++ 10 ∷ []) (c.into_inner-line.ensures.items ∙ (λ i. (kept ∙ before) i ++ print ((ended ∙ ap (λ t. t ++ end_object ∷ []) tokens) i)))

pub returns-clause-one : goal.returns-clause-one
returns-clause-one c =
    let fields = entry_fields c.args.entry.now in
    subst IsLine (sym (returns-clause-text c)) (is_json_line fields)
