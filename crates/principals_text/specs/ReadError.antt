-- The fault of a text with a wrong row.
use Rattle.principals_text.specs.declared.row_fault.RowError as row
use Rattle.principals_text.specs.declared.row_fault.RowError.TheVariants as row_variants
use Rattle.principals_text.specs.declared.read_fault.ReadError.{ReadError}
use Rattle.principals_text.specs.declared.read_fault.ReadError.TheVariants.{BadRow, Memory}

abbrev pub read_fault : row.RowError → ReadError
read_fault row_variants.BadRow = BadRow
read_fault row_variants.Memory = Memory
