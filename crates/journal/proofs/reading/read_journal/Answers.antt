use Rattle.std.proofs.Common.{rules, ◌≡◌, ◌∙◌, Err, ap, sym, subst}
use Rattle.journal.specs.Decision.{latest_of, recent}
use Rattle.journal.specs.Holding.{HaveEntries}
use Rattle.journal.specs.Texts.{UnlessMemory, chained, header_check}
use Rattle.std.proofs.lemmas.Int.{to_z-of_z}
use Rattle.std.proofs.Common.{SFits, w64}
use Rattle.journal.proofs.Chains.{unless_fault}
use Rattle.journal.proofs.Recent.{spelled}
use Rattle.journal.proofs.reading.read_journal.Goals as goal

pub returns-in_err-header-clause-only : goal.returns-in_err-header-clause-only
returns-in_err-header-clause-only c =
    λ h es has have is.
    let fault : c.from_residual.result ≡ Err c.in_err-header.field-0.0 = search rules in
    let none = c.in_err-header.ensures.only h (chained (header_check h) es) has (c.new-reader.ensures ∙ is) in
    subst (λ r. UnlessMemory r (λ j. (j.header ≡ h) × (j.entries ≡ recent (latest_of h.at es) es))) (sym fault)
    (unless_fault c.in_err-header.field-0.0 _ (λ j. (j.header ≡ h) × (j.entries ≡ recent (latest_of h.at es) es)) none)

pub returns-in_err-entries-clause-only : goal.returns-in_err-entries-clause-only
returns-in_err-entries-clause-only c =
    λ h es has have is.
    let fault : c.from_residual-in_err-entries.result ≡ Err c.in_err-entries.field-0.0 = search rules in
    let parts = c.in_ok-header.ensures.only h (chained (header_check h) es) has (c.new-reader.ensures ∙ is) in
    let check : c.in_ok-header.field-0.check ≡ header_check c.in_ok-header.field-0.header = search rules in
    let none = c.in_err-entries.ensures.only es have (parts.1 ∙ ap (λ k. chained k es) (sym (check ∙ ap header_check parts.0))) in
    subst (λ r. UnlessMemory r (λ j. (j.header ≡ h) × (j.entries ≡ recent (latest_of h.at es) es))) (sym fault)
    (unless_fault c.in_err-entries.field-0.0 _ (λ j. (j.header ≡ h) × (j.entries ≡ recent (latest_of h.at es) es)) none)

pub returns-clause-only : goal.returns-clause-only
returns-clause-only c =
    λ h es has have is.
    let parts = c.in_ok-header.ensures.only h (chained (header_check h) es) has (c.new-reader.ensures ∙ is) in
    let check : c.in_ok-header.field-0.check ≡ header_check c.in_ok-header.field-0.header = search rules in
    let all = c.in_ok-entries.ensures.only es have (parts.1 ∙ ap (λ k. chained k es) (sym (check ∙ ap header_check parts.0))) in
    let items : c.from_vec.result ≡ c.in_ok-entries.field-0.entries.items = search rules in
    (parts.0, items ∙ (all ∙ ap (λ x. recent (latest_of x.at es) es) parts.0))

pub returns-clause-spells : goal.returns-clause-spells
returns-clause-spells c =
    let (all, es) = c.in_ok-entries.ensures.found in
    let h = c.in_ok-header.field-0.header in
    let items : c.from_vec.result ≡ c.in_ok-entries.field-0.entries.items = search rules in
    let check : c.in_ok-header.field-0.check ≡ header_check h = search rules in
    let t = c.in_ok-entries.field-0 in
    let latest : SFits w64 c.in_ok-entries.field-0.latest = search rules in
    let high : SFits w64 c.in_ok-entries.field-0.high = search rules in
    simp to_z-of_z
    (spelled c.args.text.now c.take_header.new.reader h c.in_ok-header.field-0.check all c.from_vec.result t.check t.latest t.high
    (sym c.new-reader.ensures ∙ c.in_ok-header.ensures.found) check c.in_ok-header.ensures.has
    (subst (λ xs. HaveEntries c.take_header.new.reader c.in_ok-header.field-0.check h.at h.floor all xs t.check t.latest t.high) (sym items) es))
