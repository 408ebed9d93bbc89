use Rattle.std.proofs.Common.{rules, ◌≡◌, ◌<◌, ◌≤◌, ◌^◌, ◌∙◌, ◌++◌, ap, append_assoc, SFits, w64, length, sym, subst}
use Rattle.std.proofs.lemmas.Int.{to_z-of_z}
use Rattle.krb_der.specs.Spelling.{tlv}
use Rattle.krb_elements.specs.Codec.{written}
use Rattle.journal.specs.Forms.{header}
use Rattle.journal.specs.Showing.{element_length}
use Rattle.journal.specs.Texts.{HasHeader, check_of, checked, header_check}
use Rattle.journal.proofs.Walks.{element_within}
use Rattle.journal.proofs.showing.front_header.Goals as goal

pub returns-in_default-header_in-clause-none : goal.returns-in_default-header_in-clause-none
returns-in_default-header_in-clause-none c =
    λ h b.
    let first = c.in-Ok.ensures.only (written header h) (tlv 4 (header_check h) ++ b.rest) b.has.1
    (c.new-reader.ensures ∙ (b.text_is ∙ append_assoc (tlv 4 (written header h)) (tlv 4 (header_check h)) b.rest)) in
    absurd (c.in_default-header_in.ensures.only h (subst (λ o. header.Spells h o) (sym first.0) b.has.0))

pub returns-in_default-take_check-clause-none : goal.returns-in_default-take_check-clause-none
returns-in_default-take_check-clause-none c =
    λ h b.
    let first = c.in-Ok.ensures.only (written header h) (tlv 4 (header_check h) ++ b.rest) b.has.1
    (c.new-reader.ensures ∙ (b.text_is ∙ append_assoc (tlv 4 (written header h)) (tlv 4 (header_check h)) b.rest)) in
    let is = c.in-Ok-header_in.ensures.only h (subst (λ o. header.Spells h o) (sym first.0) b.has.0) in
    let check_is = c.next_check-check.ensures ∙ ap (λ l. check_of l c.in-Ok.octets.now) (c.as_slice.ensures ∙ ap (λ x. x.link) is) ∙ ap (check_of h.link) first.0 in
    absurd (c.in_default-take_check.ensures.only b.rest (first.1 ∙ ap (λ k. tlv 4 k ++ b.rest) (sym check_is)))

pub returns-clause-some : goal.returns-clause-some
returns-clause-some c =
    let h = c.in-Ok-header_in.found in
    let o = c.in-Ok.octets.now in
    let is : o ≡ written header h = c.in-Ok-header_in.ensures.found in
    let has : HasHeader h = (subst (λ x. header.Spells h x) is c.in-Ok-header_in.ensures.spells, subst (λ x. length x < 2 ^ 32) is c.in-Ok.ensures.found.1) in
    let after = c.take_check.new.reader in
    let check_is = c.next_check-check.ensures ∙ ap (λ l. check_of l o) c.as_slice.ensures in
    let text : c.args.text.now ≡ checked h.link (written header h) ++ after =
    sym c.new-reader.ensures ∙ (c.in-Ok.ensures.found.0 ∙ (ap (λ l. tlv 4 o ++ l) (c.in-Ok-take_check.ensures.found ∙ ap (λ k. tlv 4 k ++ after) check_is)
    ∙ (sym (append_assoc (tlv 4 o) (tlv 4 (check_of h.link o)) after) ∙ ap (λ x. checked h.link x ++ after) is))) in
    let fits : SFits w64 c.head_floor.result = search rules in
    simp to_z-of_z (h, record { rest = after; text_is = text; has = has }, c.head_floor.ensures, c.element_len.ensures (written header h) (ap length (sym is)))

pub returns-clause-within : goal.returns-clause-within
returns-clause-within c =
    let o = c.in-Ok.octets.now in
    let h = c.in-Ok-header_in.found in
    let after = c.take_check.new.reader in
    let check_is = c.next_check-check.ensures ∙ ap (λ l. check_of l o) c.as_slice.ensures in
    let text : c.args.text.now ≡ checked h.link o ++ after =
    sym c.new-reader.ensures ∙ (c.in-Ok.ensures.found.0 ∙ (ap (λ l. tlv 4 o ++ l) (c.in-Ok-take_check.ensures.found ∙ ap (λ k. tlv 4 k ++ after) check_is)
    ∙ sym (append_assoc (tlv 4 o) (tlv 4 (check_of h.link o)) after))) in
    let len : c.element_len.result ≡ element_length o = c.element_len.ensures o (search rules) in
    subst (λ n. n ≤ length c.args.text.now) (sym len) (element_within h.link o after c.args.text.now text).1
