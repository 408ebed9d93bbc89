-- The words for what is wrong with a file that was read.
use Rattle.std.specs.Prelude.{ℕ, List, Option, Some, None, codes}
use Rattle.file_store.specs.declared.faults.FileError.{FileError}
use Rattle.file_store.specs.declared.faults.FileError.TheVariants.{LongFile, ShortSeed, Failed}

abbrev pub cause_refusal : FileError → Option (List ℕ)
cause_refusal LongFile = Some (codes "LongFile")
cause_refusal ShortSeed = Some (codes "ShortSeed")
cause_refusal (Failed error) = None
