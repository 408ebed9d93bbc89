use Rattle.std.proofs.Common.{◌∙◌, ◌++◌, ap, append_assoc, sym, subst}
use Rattle.krb_der.specs.Spelling.{tlv}
use Rattle.krb_elements.specs.Codec.{written}
use Rattle.journal.specs.Forms.{header}
use Rattle.journal.specs.Texts.{check_of, header_check}
use Rattle.journal.proofs.reading.take_header.Goals as goal

pub returns-in_err-octets-clause-only : goal.returns-in_err-octets-clause-only
returns-in_err-octets-clause-only c =
    λ h rest has found.
    absurd
    (c.in_err-octets.ensures.only (written header h) (tlv 4 (header_check h) ++ rest) has.1
    (found ∙ append_assoc (tlv 4 (written header h)) (tlv 4 (header_check h)) rest)).0

pub returns-in_err-found-clause-only : goal.returns-in_err-found-clause-only
returns-in_err-found-clause-only c =
    λ h rest has found.
    let first = c.in_ok-octets.ensures.only (written header h) (tlv 4 (header_check h) ++ rest) has.1 (found ∙ append_assoc (tlv 4 (written header h)) (tlv 4 (header_check h)) rest) in
    absurd (c.in_err-found.ensures.only h (subst (λ o. header.Spells h o) (sym first.0) has.0))

pub returns-in_err-take_check-clause-only : goal.returns-in_err-take_check-clause-only
returns-in_err-take_check-clause-only c =
    λ h rest has found.
    let first = c.in_ok-octets.ensures.only (written header h) (tlv 4 (header_check h) ++ rest) has.1 (found ∙ append_assoc (tlv 4 (written header h)) (tlv 4 (header_check h)) rest) in
    let is = c.in_ok-found.ensures.only h (subst (λ o. header.Spells h o) (sym first.0) has.0) in
    let check_is = c.next_check-check.ensures ∙ ap (λ l. check_of l c.in_ok-octets.octets.now) (c.as_slice.ensures ∙ ap (λ x. x.link) is) ∙ ap (λ o. check_of h.link o) first.0 in
    absurd (c.in_err-take_check.ensures.only rest (first.1 ∙ ap (λ k. tlv 4 k ++ rest) (sym check_is)))

pub returns-clause-only : goal.returns-clause-only
returns-clause-only c =
    λ h rest has found.
    let first = c.in_ok-octets.ensures.only (written header h) (tlv 4 (header_check h) ++ rest) has.1 (found ∙ append_assoc (tlv 4 (written header h)) (tlv 4 (header_check h)) rest) in
    let is = c.in_ok-found.ensures.only h (subst (λ o. header.Spells h o) (sym first.0) has.0) in
    let check_is = c.next_check-check.ensures ∙ ap (λ l. check_of l c.in_ok-octets.octets.now) (c.as_slice.ensures ∙ ap (λ x. x.link) is) ∙ ap (λ o. check_of h.link o) first.0 in
    (c.in_ok-owned_header.ensures ∙ is, c.in_ok-take_check.ensures.only rest (first.1 ∙ ap (λ k. tlv 4 k ++ rest) (sym check_is)))
