use Rattle.std.proofs.Common.{rules, ◌≡◌, ◌∙◌, ◌++◌, ap, string_bytes, subst, Some}
use denote.Text.{Utf8}
use denote.Shadow.{shadow}
use Rattle.client_files.specs.CachePaths.{HasToken, token_text}
use Rattle.client_files.proofs.Tokens.{ahead_next}
use Rattle.client_files.proofs.settings.with_tokens.Goals as goal

pub loop-front-preserved : goal.loop-front-preserved
loop-front-preserved c =
    let cut = c.in-Some.ensures.cases in
    let rest = c.loop-front.rest.now in
    let whole = string_bytes c.loop-front.whole in
    let token = c.in-Some-split_once.token.now in
    let after = c.in-Some-split_once.after.now in
    let text = string_bytes c.in-Some-2.text in
    let utf8 : shadow (Utf8 after) = search rules in
    let has : HasToken token after c.in-Some.behind.now = search rules in
    let known : token_text c.args.user token ≡ Some text = search rules in
    let pushed : string_bytes c.push_str-in-Some.new.self ≡ whole ++ c.in-Some.front.now ++ text = search rules in (
      utf8,
      ahead_next c.args.user c.args.path.now whole rest token text after _ cut.0 cut.1 c.loop-front.invariant.1
          cut.2 (subst (λ b. HasToken token after b) cut.4 has) known (pushed ∙ ap (λ front. whole ++ front ++ text) cut.3),
    )
