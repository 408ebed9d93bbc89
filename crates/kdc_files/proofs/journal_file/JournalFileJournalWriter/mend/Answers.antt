use Rattle.kdc_files.proofs.Calls.{if_any}
use Rattle.kdc_files.proofs.journal_file.JournalFileJournalWriter.mend.Goals as goal

pub returns-clause-call : goal.returns-clause-call
returns-clause-call g c = record {
  kept = c.mend.ensures.kept;
  whole = if_any (g.F.JournalFiles.world c.mend.new.self.files) c.mend.ensures.whole;
  seal = c.mend.ensures.seal;
  there = c.mend.ensures.there;
}
