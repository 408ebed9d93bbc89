use Rattle.std.proofs.Common.{◌≡◌, Some, None, ap, option_copied}
use Rattle.kdc_files.proofs.Calls.{asked_keep, asked_mend}
use Rattle.kdc_files.proofs.keeping.keep_seen.Goals as goal

pub returns-in-Some-clause-asked : goal.returns-in-Some-clause-asked
returns-in-Some-clause-asked g c =
    let there : option_copied c.args.seen ≡ Some c.in-Some.seen.now = ap option_copied c.in-Some.is in
    asked_keep c.in-Some.seen.now (option_copied c.args.seen) c.keep.result c.is_ok.result (g.J.JournalWriter.state c.args.journal.now) (g.J.JournalWriter.state c.keep.new.self) there
    c.is_ok.ensures.value c.keep.ensures.call

pub returns-in-None-clause-asked : goal.returns-in-None-clause-asked
returns-in-None-clause-asked g c =
    let there : option_copied c.args.seen ≡ None = ap option_copied c.in-None.is in
    asked_mend (option_copied c.args.seen) c.mend.result c.is_ok-in-None.result (g.J.JournalWriter.state c.args.journal.now) (g.J.JournalWriter.state c.mend.new.self) there
    c.is_ok-in-None.ensures.value c.mend.ensures.call
