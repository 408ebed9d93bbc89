use Rattle.std.proofs.Common.{rules, ◌≡◌, ◌≤◌, ◌-◌, ◌∙◌, ◌++◌, ap, drop, sym, take}
use Rattle.krb_elements.specs.Codec.{written}
use Rattle.journal.specs.Forms.{entry}
use Rattle.journal.specs.Texts.{checked}
use Rattle.journal.proofs.Walks.{if_none, if_some, none_standing, one_standing}
use Rattle.journal.proofs.showing.entry_standing.Goals as goal

pub returns-clause-none : goal.returns-clause-none
returns-clause-none c =
    let le : 16 ≤ c.args.place = search rules in
    let before : c.split_at-2.result.1.now ≡ drop (c.args.place - 16) (take c.args.place c.args.text.now) =
    c.split_at-2.ensures.back ∙ ap (drop (c.args.place - 16)) c.split_at.ensures.front in
    if_none c.front_entry.result
    (λ none. none_standing c.args.text.now c.args.place le c.requires
    (λ e after has is. none e after has (c.split_at.ensures.back ∙ (is ∙ ap (λ b. checked b (written entry e) ++ after) (sym before)))))
    c.front_entry.ensures.none

pub returns-clause-some : goal.returns-clause-some
returns-clause-some c =
    let le : 16 ≤ c.args.place = search rules in
    let before : c.split_at-2.result.1.now ≡ drop (c.args.place - 16) (take c.args.place c.args.text.now) =
    c.split_at-2.ensures.back ∙ ap (drop (c.args.place - 16)) c.split_at.ensures.front in
    if_some c.front_entry.result
    (λ s (e, after, has, is, floor, len). (
      e,
      one_standing c.args.text.now c.args.place le c.requires e after has
          (sym c.split_at.ensures.back ∙ (is ∙ ap (λ b. checked b (written entry e) ++ after) before)),
      floor,
      len,
    ))
    c.front_entry.ensures.some
