use Rattle.std.proofs.Common.{rules, All}
use Rattle.text_fields.specs.Settings.{settings_of}
use Rattle.principals_text.specs.ReadBack.{IsFitting}
use Rattle.principals_text.proofs.KeptRows.{row_kept}
use Rattle.principals_text.proofs.ReadBack.{versions_read, policy_read, row_read}
use Rattle.principals_text.proofs.row_tokens.know_row.Goals as goal

pub returns-clause-reads : goal.returns-clause-reads
returns-clause-reads c =
    let row = c.args.row.now in
    let fits : All IsFitting (settings_of c.args.row.now.policy) = search rules in
    row_read row (policy_read row fits) (versions_read row.versions c.as_slice-versions.ensures.valid)

pub returns-clause-kept : goal.returns-clause-kept
returns-clause-kept c =
    let fits : All IsFitting (settings_of c.args.row.now.policy) = search rules in
    row_kept c.args.row.now c.as_slice-versions.ensures.valid fits
