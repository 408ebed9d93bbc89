-- A journal begins, or fails to, over files without a record.
use Rattle.std.proofs.Common.{Bool, ℤ, Option, None, refl}
use Rattle.journal.specs.declared.journal_file.Tail.{Tail}
use Rattle.kdc_files.specs.Keeping.{BeginsOver}
use Rattle.kdc_files.specs.declared.journals.JournalBeginning.{JournalBeginning}

pub nothing_begun : (beginning : JournalBeginning) (ok : Bool) (tail : Option Tail) (floor : Option ℤ)
    → BeginsOver beginning ok None (record { files = None; tail = tail; floor = floor })
nothing_begun beginning ok tail floor = record {
  kept = λ begun floor is starts. tt;
  safe = λ low r safe fails. tt;
  broken = λ begun. tt;
  there = λ begun floor before is starts counts. refl;
  stays = λ before fails. refl;
}
