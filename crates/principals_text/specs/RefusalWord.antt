-- The words for the faults of a text that can't be read as a database.
use Rattle.std.specs.Prelude.{ℕ, List, Option, Some, None, codes}
use Rattle.principals_text.specs.declared.read_fault.ReadError.{ReadError}
use Rattle.principals_text.specs.declared.read_fault.ReadError.TheVariants.{NotJson, BadVersion, BadRow}
use Rattle.principals_text.specs.declared.read_fault.ReadError.TheVariants.{NoTicketGranter, Memory}

-- a fault's word; running out of memory has none, since it refuses nothing
abbrev pub read_refusal : ReadError → Option (List ℕ)
read_refusal NotJson = Some (codes "NotJson")
read_refusal BadVersion = Some (codes "BadVersion")
read_refusal BadRow = Some (codes "BadRow")
read_refusal NoTicketGranter = Some (codes "NoTicketGranter")
read_refusal Memory = None
