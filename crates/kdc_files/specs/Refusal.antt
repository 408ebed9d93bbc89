-- The words for the faults of a file that was read.
use Rattle.std.specs.Prelude.{ℕ, List, Option, Some, None, codes}
use Rattle.file_store.specs.Refusal.{cause_refusal}
use Rattle.principals_text.specs.RefusalWord.{read_refusal}
use Rattle.kdc_files.specs.declared.files.ServerFileError.{ServerFileError}
use Rattle.kdc_files.specs.declared.files.ServerFileError.TheVariants.{File, NotJournal, Journal, NotFirst}
use Rattle.kdc_files.specs.declared.files.ServerFileError.TheVariants.{NotJournalBeside, NotRemoved, Database}

abbrev pub refusal : ServerFileError → Option (List ℕ)
refusal (File cause) = cause_refusal cause
refusal (NotJournal part) = Some (codes "NotJournal")
refusal Journal = Some (codes "Journal")
refusal NotFirst = Some (codes "NotFirst")
refusal (NotJournalBeside part) = Some (codes "NotJournal")
refusal (NotRemoved error) = None
refusal (Database fault) = read_refusal fault.cause
