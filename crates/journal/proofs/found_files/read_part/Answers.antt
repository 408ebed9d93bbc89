use Rattle.journal.proofs.Keeps.{found_where}
use Rattle.journal.proofs.found_files.read_part.Goals as goal

pub returns-clause-found : goal.returns-clause-found
returns-clause-found g c =
    found_where (g.F.JournalFiles.world c.args.files.now) c.args.part c.in_ok-text.text c.in_ok-judge_text.field-0 c.in_ok-text.ensures.read c.in_ok-judge_text.ensures
