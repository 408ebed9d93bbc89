use Rattle.std.proofs.Common.{◌≡◌, ◌+◌, ◌++◌, ◌∷◌, [], length, length-append, map, take, get_or, lit<, sym, ap, subst, ◌∙◌, arith, Result, Ok, Err, MatchResult, IsErrAnd}
use Rattle.std.proofs.lemmas.Iterator.Splits.{YieldsList-from_str_split}
use Rattle.std.proofs.lemmas.Iterator.Consumers.{YieldsList-turn, YieldsList-end, YieldsList-at}
use Rattle.std.specs.List.{All}
use Rattle.std.proofs.lemmas.List.Elements.{All-push}
use Rattle.krb_fields.specs.NameLimits.{IsComponent}
use Rattle.krb_fields.specs.NameLimitsLaws.{name_facts, name_is}
use Rattle.krb_fields.specs.NameText.{component_text}
use Rattle.krb_fields.specs.declared.name_text.NameFault.{NameFault}
use Rattle.krb_fields.specs.declared.name_text.NameFault.TheVariants.{Memory}
use Rattle.krb_fields.proofs.TextLaws.{parts_of, parts_spelled, count_spelled, part_spelled, parts_nonempty, one_more_part, all_parts, text_of-parts, texts-injective}
use Rattle.krb_fields.proofs.name_text.components_from_text.Goals as goal

-- the error is passed on
same_fault : {A : Type 0} (P : A → Type 0) (r : Result A NameFault) (fault : NameFault) → IsErrAnd r (λ f. f ≡ fault) → fault ≡ Memory → MatchResult r P (λ f. f ≡ Memory)
same_fault P (Ok x) fault e m = absurd e
same_fault P (Err f) fault e m = e ∙ m

pub returns-then-len-eq-MAX_COMPONENTS-clause-read : goal.returns-then-len-eq-MAX_COMPONENTS-clause-read
returns-then-len-eq-MAX_COMPONENTS-clause-read c = λ n spelled.
    let parts = YieldsList-from_str_split 0x2F c.args.text.now (lit< tt) c.split-part-items.ensures.text c.split-part-items.ensures.has_more c.split-part-items.ensures.pattern in
    let turn = YieldsList-turn (YieldsList-at c.into_iter-part-iterator.ensures.into_iter_gives parts) c.loop-part.yielded _ c.loop-part.yielded_by _ _ c.in-Some.part c.in-Some.is c.next.ensures.steps in
    absurd (omega (arith, turn.0, count_spelled n c.args.text.now spelled, (name_facts n spelled.0).1, c.loop-part.invariant.1, c.len.ensures, c.if-len-eq-MAX_COMPONENTS.true))

pub returns-in_err-component_from_text-clause-read : goal.returns-in_err-component_from_text-clause-read
returns-in_err-component_from_text-clause-read c = λ n spelled.
    let parts = YieldsList-from_str_split 0x2F c.args.text.now (lit< tt) c.split-part-items.ensures.text c.split-part-items.ensures.has_more c.split-part-items.ensures.pattern in
    let turn = YieldsList-turn (YieldsList-at c.into_iter-part-iterator.ensures.into_iter_gives parts) c.loop-part.yielded _ c.loop-part.yielded_by _ _ c.in-Some.part c.in-Some.is c.next.ensures.steps in
    let part = part_spelled n c.args.text.now c.in-Some.part.now (length c.loop-part.yielded) spelled turn.0 turn.1 in
    let memory = c.in_err-component_from_text.ensures.read (get_or n (length c.loop-part.yielded) []) part in
    same_fault (λ components. components ≡ n) c.from_residual.result _ c.from_residual.ensures.1 memory

pub loop-part-preserved : goal.loop-part-preserved
loop-part-preserved c =
    let parts = YieldsList-from_str_split 0x2F c.args.text.now (lit< tt) c.split-part-items.ensures.text c.split-part-items.ensures.has_more c.split-part-items.ensures.pattern in
    let turn = YieldsList-turn (YieldsList-at c.into_iter-part-iterator.ensures.into_iter_gives parts) c.loop-part.yielded _ c.loop-part.yielded_by _ _ c.in-Some.part c.in-Some.is c.next.ensures.steps in
    let component = c.in_ok-component_from_text.ensures.ok in
    let more = c.in_ok-push.ensures.ok in
    let i = c.loop-part.invariant in
    let counted : length (c.loop-part.yielded ++ c.in-Some.part ∷ []) ≡ length c.loop-part.yielded + 1 = length-append _ _ in
    let longer : length c.push.new.self ≡ length c.loop-part.components + 1 = ap length more ∙ length-append _ _ in (
      ap (λ l. map component_text l) more
          ∙ one_more_part c.loop-part.components c.in_ok-component_from_text.field-0 c.args.text.now c.in-Some.part.now _ i.0 turn.0 turn.1 component.1
          ∙ ap (λ k. take k (parts_of c.args.text.now)) (sym counted),
      longer ∙ ap (λ k. k + 1) i.1 ∙ sym counted,
      omega (arith, longer, i.2, c.len.ensures, c.if-len-eq-MAX_COMPONENTS.false),
      subst (λ l. All IsComponent l) (sym more) (All-push IsComponent _ _ i.3 component.0),
    )

pub returns-clause-ok : goal.returns-clause-ok
returns-clause-ok c =
    let parts = YieldsList-from_str_split 0x2F c.args.text.now (lit< tt) c.split-part-items.ensures.text c.split-part-items.ensures.has_more c.split-part-items.ensures.pattern in
    let end = YieldsList-end (YieldsList-at c.into_iter-part-iterator.ensures.into_iter_gives parts) c.loop-part.yielded _ c.loop-part.yielded_by _ _ c.in-None.is c.next.ensures.steps in
    let i = c.loop-part.invariant in (
      name_is c.loop-part.components (omega (arith, i.1, end.1, parts_nonempty c.args.text.now), i.2, i.3),
      text_of-parts c.loop-part.components c.args.text.now (all_parts c.loop-part.components c.args.text.now _ i.0 end.1),
    )

pub returns-clause-read : goal.returns-clause-read
returns-clause-read c = λ n spelled.
    let parts = YieldsList-from_str_split 0x2F c.args.text.now (lit< tt) c.split-part-items.ensures.text c.split-part-items.ensures.has_more c.split-part-items.ensures.pattern in
    let end = YieldsList-end (YieldsList-at c.into_iter-part-iterator.ensures.into_iter_gives parts) c.loop-part.yielded _ c.loop-part.yielded_by _ _ c.in-None.is c.next.ensures.steps in
    texts-injective c.loop-part.components n (all_parts c.loop-part.components c.args.text.now _ c.loop-part.invariant.0 end.1 ∙ parts_spelled n c.args.text.now spelled)
