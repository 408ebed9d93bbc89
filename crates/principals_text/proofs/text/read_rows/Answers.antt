use Rattle.principals_text.proofs.RowEntries.{rows_fit-entries}
use Rattle.principals_text.proofs.text.read_rows.Goals as goal

pub returns-clause-fits : goal.returns-clause-fits
returns-clause-fits c = rows_fit-entries c.in_ok-entries.entries.items c.in_ok-from_entries.field-0 c.in_ok-entries.ensures.fits c.in_ok-from_entries.ensures
