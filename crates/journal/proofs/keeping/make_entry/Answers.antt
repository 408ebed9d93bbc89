use Rattle.std.proofs.Common.{rules, ◌≡◌, ◌∙◌, true, subst, sym}
use Rattle.krb_fields.specs.NameLimits.{IsWithinLimits, is_within_limits}
use Rattle.journal.proofs.Lengths.{entry_short}
use Rattle.journal.proofs.keeping.make_entry.Goals as goal

pub returns-clause-short : goal.returns-clause-short
returns-clause-short c =
    let test : c.is_within_limits.result ≡ true = search rules in
    let within : is_within_limits c.args.seen.now.client.components ≡ true = sym c.is_within_limits.ensures ∙ test in
    entry_short _ (subst (λ n. IsWithinLimits n.components) (sym c.in_ok-copy.ensures) within)
