-- The words for the faults of a keytab or a credential cache.
use Rattle.std.specs.Prelude.{ℕ, List, Option, Some, None, codes}
use Rattle.cred_files.specs.declared.fault.CredError.{CredError}
use Rattle.cred_files.specs.declared.fault.CredError.TheVariants.{BadMagic, Truncated, BadEntry, TooLate, Absent}
use Rattle.cred_files.specs.declared.fault.CredError.TheVariants.{Memory}

-- a fault's word; running out of memory has none, since it refuses nothing
abbrev pub cred_refusal : CredError → Option (List ℕ)
cred_refusal BadMagic = Some (codes "BadMagic")
cred_refusal Truncated = Some (codes "Truncated")
cred_refusal BadEntry = Some (codes "BadEntry")
cred_refusal TooLate = Some (codes "TooLate")
cred_refusal Absent = Some (codes "Absent")
cred_refusal Memory = None
