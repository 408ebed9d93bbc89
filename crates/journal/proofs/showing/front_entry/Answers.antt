use Rattle.std.proofs.Common.{rules, ◌≡◌, ◌<◌, ◌≤◌, ◌^◌, ◌∙◌, ◌++◌, ap, append_assoc, SFits, w64, length, sym, subst}
use Rattle.std.proofs.lemmas.Int.{to_z-of_z}
use Rattle.krb_der.specs.Spelling.{tlv}
use Rattle.krb_elements.specs.Codec.{written}
use Rattle.journal.specs.Forms.{entry}
use Rattle.journal.specs.Showing.{element_length}
use Rattle.journal.specs.Texts.{HasElement, check_of, checked}
use Rattle.journal.proofs.Walks.{element_within}
use Rattle.journal.proofs.showing.front_entry.Goals as goal

pub returns-in_default-entry_in-clause-none : goal.returns-in_default-entry_in-clause-none
returns-in_default-entry_in-clause-none c =
    λ e after has found.
    let first = c.in-Ok.ensures.only (written entry e) (tlv 4 (check_of c.args.before.now (written entry e)) ++ after) has.1
    (c.new-reader.ensures ∙ (found ∙ append_assoc (tlv 4 (written entry e)) (tlv 4 (check_of c.args.before.now (written entry e))) after)) in
    absurd (c.in_default-entry_in.ensures.only e (subst (λ o. entry.Spells e o) (sym first.0) has.0))

pub returns-in_default-take_check-clause-none : goal.returns-in_default-take_check-clause-none
returns-in_default-take_check-clause-none c =
    λ e after has found.
    let first = c.in-Ok.ensures.only (written entry e) (tlv 4 (check_of c.args.before.now (written entry e)) ++ after) has.1
    (c.new-reader.ensures ∙ (found ∙ append_assoc (tlv 4 (written entry e)) (tlv 4 (check_of c.args.before.now (written entry e))) after)) in
    let check_is = c.next_check-check.ensures ∙ ap (check_of c.args.before.now) first.0 in
    absurd (c.in_default-take_check.ensures.only after (first.1 ∙ ap (λ k. tlv 4 k ++ after) (sym check_is)))

pub returns-clause-some : goal.returns-clause-some
returns-clause-some c =
    let e = c.in-Ok-entry_in.found in
    let o = c.in-Ok.octets.now in
    let is : o ≡ written entry e = c.in-Ok-entry_in.ensures.found in
    let has : HasElement e = (subst (λ x. entry.Spells e x) is c.in-Ok-entry_in.ensures.spells, subst (λ x. length x < 2 ^ 32) is c.in-Ok.ensures.found.1) in
    let after = c.take_check.new.reader in
    let check_is = c.next_check-check.ensures in
    let text : c.args.rest.now ≡ checked c.args.before.now (written entry e) ++ after =
    sym c.new-reader.ensures ∙ (c.in-Ok.ensures.found.0 ∙ (ap (λ l. tlv 4 o ++ l) (c.in-Ok-take_check.ensures.found ∙ ap (λ k. tlv 4 k ++ after) check_is)
    ∙ (sym (append_assoc (tlv 4 o) (tlv 4 (check_of c.args.before.now o)) after) ∙ ap (λ x. checked c.args.before.now x ++ after) is))) in
    let fits : SFits w64 c.entry_floor.result = search rules in
    simp to_z-of_z (e, after, has, text, c.entry_floor.ensures, c.element_len.ensures (written entry e) (ap length (sym is)))

pub returns-clause-within : goal.returns-clause-within
returns-clause-within c =
    let o = c.in-Ok.octets.now in
    let after = c.take_check.new.reader in
    let text : c.args.rest.now ≡ checked c.args.before.now o ++ after =
    sym c.new-reader.ensures ∙ (c.in-Ok.ensures.found.0 ∙ (ap (λ l. tlv 4 o ++ l) (c.in-Ok-take_check.ensures.found ∙ ap (λ k. tlv 4 k ++ after) c.next_check-check.ensures)
    ∙ sym (append_assoc (tlv 4 o) (tlv 4 (check_of c.args.before.now o)) after))) in
    let len : c.element_len.result ≡ element_length o = c.element_len.ensures o (search rules) in
    subst (λ n. (0 < n) × (n ≤ length c.args.rest.now)) (sym len) (element_within c.args.before.now o after c.args.rest.now text)
