use Rattle.std.proofs.Common.{rules, ◌≡◌, [], ◌∷◌, ◌++◌, string_bytes, sym, ap, subst, ◌∙◌, append_assoc, append-nil}
use Rattle.std.proofs.lemmas.Result.{on_ok_weaker}
use Rattle.principals_text.specs.RowWritten.{row_value}
use Rattle.principals_text.specs.Tokens.{IsLonger, data_tokens, member_tokens, named_members}
use Rattle.serde_json.specs.Data.{object}
use Rattle.principals_text.proofs.RowTokens.{Named, none_more, one_more, if_one_more, chain, named_more, rows_written}
use Rattle.principals_text.proofs.row_tokens.write_rows.Goals as goal

pub loop-text-init : goal.loop-text-init
loop-text-init c = ([], sym (c.into_iter-text-iterator.ensures.into_iter_gives ∙ c.iter-text-items.ensures.rest), none_more c.begin_object.new.self)

pub loop-text-preserved : goal.loop-text-preserved
loop-text-preserved c =
    let held = c.loop-text.invariant in
    let done = held.0 in
    let e : Named = (c.in-Some.text.now, c.in-Some.row.now) in
    let left = c.next.new.self in
    let all : c.args.rows.now.entries ≡ done ++ e ∷ left = held.1 ∙ ap (λ es. done ++ es) c.in-Some.ensures.steps in
    let named : c.as_str.result.now ≡ string_bytes c.in-Some.text.now = search rules in
    let step = subst (λ s. IsLonger c.loop-text.out c.write_row.new.out (member_tokens s (row_value c.in-Some.row.now.now))) named (chain (one_more c.in_ok-key.ensures) c.in_ok-write_row.ensures) in (
      done ++ e ∷ [],
      all ∙ sym (append_assoc done (e ∷ []) left),
      subst (IsLonger c.begin_object.new.self c.write_row.new.out) (sym (named_more done e)) (chain held.2 step),
    )

pub returns : goal.returns
returns c =
    let held = c.loop-text.invariant in
    let done = held.0 in
    let none : c.loop-text.text-iterator ≡ [] = search rules in
    let all : c.args.rows.now.entries ≡ done = held.1 ∙ ap (λ es. done ++ es) none ∙ append-nil done in
    on_ok_weaker c.end_object.result (λ e.
    subst (λ es. IsLonger c.args.out.now c.end_object.new.self (data_tokens (object (named_members es)))) (sym all)
    (rows_written c.args.out.now c.begin_object.new.self c.loop-text.out c.end_object.new.self done (one_more c.in_ok-begin_object.ensures) held.2 e))
    (if_one_more c.end_object.result _ _ _ c.end_object.ensures)
