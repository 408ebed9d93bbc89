use Rattle.std.proofs.Common.{◌∙◌, sym, subst}
use Rattle.krb_elements.specs.Codec.{written}
use Rattle.journal.specs.Forms.{entry}
use Rattle.journal.proofs.Chains.{shorter}
use Rattle.journal.proofs.reading.take_entry.Goals as goal

pub returns-in_err-element-clause-only : goal.returns-in_err-element-clause-only
returns-in_err-element-clause-only c =
    λ e rest has found. absurd (c.in_err-element.ensures.only (written entry e) rest has.1 found).0

pub returns-in_err-found-clause-only : goal.returns-in_err-found-clause-only
returns-in_err-found-clause-only c =
    λ e rest has found.
    let taken = c.in_ok-element.ensures.only (written entry e) rest has.1 found in
    absurd (c.in_err-found.ensures.only e (subst (λ o. entry.Spells e o) (sym taken.0) has.0))

pub returns-clause-only : goal.returns-clause-only
returns-clause-only c =
    λ e rest has found.
    let taken = c.in_ok-element.ensures.only (written entry e) rest has.1 found in
    let is = c.in_ok-found.ensures.only e (subst (λ o. entry.Spells e o) (sym taken.0) has.0) in
    (c.in_ok-owned_entry.ensures ∙ is, taken.1)

pub returns-clause-shorter : goal.returns-clause-shorter
returns-clause-shorter c = shorter c.args.before.now _ c.args.reader.now c.take_element.new.reader c.in_ok-element.ensures.found
