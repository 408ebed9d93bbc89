use Rattle.std.proofs.Common.{List, ◌≡◌, ◌+◌, ◌∷◌, [], ◌++◌, length, length-append, take, lit<, sym, subst}
use Rattle.std.proofs.lemmas.Iterator.Splits.{YieldsList-from_str_split}
use Rattle.std.proofs.lemmas.Iterator.Consumers.{YieldsList-turn, YieldsList-end, YieldsList-at}
use Rattle.enctypes.specs.declared.key.Key.{Key}
use Rattle.kdcd.specs.Field.{IsKeyText, AreKeyTexts}
use Rattle.kdcd.proofs.KeyTexts.{parts_of, one_more_key, all_keys, same_list, no_list, no_keys_at}
use Rattle.kdcd.proofs.field.keys.Goals as goal

pub loop-part-preserved : goal.loop-part-preserved
loop-part-preserved c =
    let parts = YieldsList-from_str_split 0x2C c.args.text.now (lit< tt) c.split-part-items.ensures.text c.split-part-items.ensures.has_more c.split-part-items.ensures.pattern in
    let turn = YieldsList-turn (YieldsList-at c.into_iter-part-iterator.ensures.into_iter_gives parts) c.loop-part.yielded _ c.loop-part.yielded_by _ _ c.in-Some.part c.in-Some.is c.next.ensures.steps in
    let counted : length (c.loop-part.yielded ++ c.in-Some.part ∷ []) ≡ length c.loop-part.yielded + 1 = length-append _ _ in
    let more = one_more_key c.loop-part.keys.items c.in-Some-key.key c.args.text.now c.in-Some.part.now (length c.loop-part.yielded) c.loop-part.invariant turn.0 turn.1 c.in-Some-key.ensures.read in
    subst (λ ks. AreKeyTexts ks (take (length (c.loop-part.yielded ++ c.in-Some.part ∷ [])) (parts_of c.args.text.now))) (sym {A = List Key} c.in_ok-push.ensures.items)
    (subst (λ n. AreKeyTexts (c.loop-part.keys.items ++ c.in-Some-key.key ∷ []) (take n (parts_of c.args.text.now))) (sym counted) more)

pub returns-in_default-clause-form : goal.returns-in_default-clause-form
returns-in_default-clause-form c e list is =
    let parts = YieldsList-from_str_split 0x2C c.args.text.now (lit< tt) c.split-part-items.ensures.text c.split-part-items.ensures.has_more c.split-part-items.ensures.pattern in
    let turn = YieldsList-turn (YieldsList-at c.into_iter-part-iterator.ensures.into_iter_gives parts) c.loop-part.yielded _ c.loop-part.yielded_by _ _ c.in-Some.part c.in-Some.is c.next.ensures.steps in
    no_keys_at list (parts_of c.args.text.now) (length c.loop-part.yielded) c.in-Some.part.now turn.0
    (λ k t. c.in_default.ensures.none k (subst (λ part. IsKeyText k part) (sym turn.1) t)) is.parts

pub returns-clause-ok : goal.returns-clause-ok
returns-clause-ok c =
    let parts = YieldsList-from_str_split 0x2C c.args.text.now (lit< tt) c.split-part-items.ensures.text c.split-part-items.ensures.has_more c.split-part-items.ensures.pattern in
    let end = YieldsList-end (YieldsList-at c.into_iter-part-iterator.ensures.into_iter_gives parts) c.loop-part.yielded _ c.loop-part.yielded_by _ _ c.in-None.is c.next.ensures.steps in
    let all = all_keys c.loop-part.keys.items c.args.text.now (length c.loop-part.yielded) c.loop-part.invariant end.1 in
    same_list c.key_list.result _ c.args.text.now c.key_list.ensures.list c.key_list.ensures.distinct (subst (λ ks. AreKeyTexts ks (parts_of c.args.text.now)) (sym c.deref.ensures.value) all)

pub returns-clause-form : goal.returns-clause-form
returns-clause-form c e list is =
    let parts = YieldsList-from_str_split 0x2C c.args.text.now (lit< tt) c.split-part-items.ensures.text c.split-part-items.ensures.has_more c.split-part-items.ensures.pattern in
    let end = YieldsList-end (YieldsList-at c.into_iter-part-iterator.ensures.into_iter_gives parts) c.loop-part.yielded _ c.loop-part.yielded_by _ _ c.in-None.is c.next.ensures.steps in
    let all = all_keys c.loop-part.keys.items c.args.text.now (length c.loop-part.yielded) c.loop-part.invariant end.1 in
    no_list _ list c.args.text.now (subst (λ ks. AreKeyTexts ks (parts_of c.args.text.now)) (sym c.deref.ensures.value) all) (c.key_list.ensures.form e) is
