use Rattle.std.proofs.Common.{rules, ◌≡◌, ◌++◌, ◌∷◌, [], sym, subst, ◌∙◌}
use Rattle.std.specs.Str.{IsUtf8}
use Rattle.json.specs.Token.{key}
use Rattle.request_log.specs.Field.{field, name_text}
use Rattle.request_log.proofs.Shown.{is_utf8, of_both, tokens_so}
use Rattle.request_log.proofs.json_lines.JsonFieldsFieldWriter.put.Goals as goal

pub write_shown-requires : goal.write_shown-requires
write_shown-requires c = subst IsUtf8 (sym (c.deref.ensures.value ∙ c.in_ok-value.ensures.value)) (is_utf8 c.args.value.now)

pub returns : goal.returns
returns c fields held =
    let keyed : c.key.new.self.tokens ≡ c.args.self.now.out.tokens ++ key (name_text c.args.name) ∷ [] = search rules in
    let kept : c.key.new.self.before ≡ c.args.self.now.out.before = search rules in
    of_both c.write_shown.result (λ tokens before. record {
      tokens = tokens ∙ tokens_so c.args.self.now.out.tokens c.key.new.self.tokens c.deref.result.now fields (field c.args.name c.args.value.now)
          held.tokens keyed (c.deref.ensures.value ∙ c.in_ok-value.ensures.value);
      before = before ∙ kept ∙ held.before;
    }) c.write_shown.ensures.tokens c.write_shown.ensures.before
