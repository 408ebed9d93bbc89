use Rattle.kdc_files.proofs.Calls.{if_any}
use Rattle.kdc_files.proofs.journal_file.JournalFileJournalWriter.keep.Goals as goal

pub returns-clause-call : goal.returns-clause-call
returns-clause-call g c = record {
  kept = c.keep.ensures.kept;
  whole = if_any (g.F.JournalFiles.world c.keep.new.self.files) c.keep.ensures.whole;
  seal = c.keep.ensures.seal;
  there = c.keep.ensures.there;
}
