use Rattle.std.proofs.Common.{rules, SFits, w64, subst}
use Rattle.std.proofs.lemmas.Int.{to_z-of_z}
use Rattle.journal.specs.Holding.{HasKept, IsRaised, kept_after, with_one}
use Rattle.journal.proofs.Keeps.{appended_kept, kept_twice, turned_kept}
use Rattle.journal.proofs.Staying.{append_stays_there, there_twice, turn_stays_there}
use Rattle.journal.proofs.journal_file.JournalFile.keep.Goals as goal

pub returns-clause-kept : goal.returns-clause-kept
returns-clause-kept g c =
    λ low kept all is.
    let world = g.F.JournalFiles.world in
    let more = with_one all c.args.seen.now in
    let turned = turned_kept low kept all _ c.args.self.now.floor c.args.self.now.tail (world c.args.self.now.files) c.turn_if_due-tail.result (world c.turn_if_due-tail.new.files) c.turn_if_due-tail.ensures is in
    let fits : SFits w64 c.args.seen.now.ctime = search rules in
    let rises : IsRaised c.args.self.now.floor c.args.seen.now.ctime c.raised-floor.result = simp to_z-of_z at c.raised-floor.ensures in
    let appended = appended_kept low kept all c.args.at c.args.seen.now c.args.self.now.floor c.raised-floor.result rises c.turn_if_due-tail.result (world c.turn_if_due-tail.new.files) c.append-tail.result (world c.append-tail.new.files) c.append-tail.ensures turned in
    let mended = c.mend.ensures.kept low (kept_after c.append-tail.result kept more) more appended in
    subst (λ k. HasKept world low k more c.mend.new.self.files c.mend.new.self.tail c.mend.new.self.floor)
    (kept_twice c.append-tail.result c.mend.result kept more c.mend.ensures.still) mended

pub returns-clause-there : goal.returns-clause-there
returns-clause-there g c =
    λ low kept all is before.
    let world = g.F.JournalFiles.world in
    let more = with_one all c.args.seen.now in
    let turned = turned_kept low kept all _ c.args.self.now.floor c.args.self.now.tail (world c.args.self.now.files) c.turn_if_due-tail.result (world c.turn_if_due-tail.new.files) c.turn_if_due-tail.ensures is in
    let fits : SFits w64 c.args.seen.now.ctime = search rules in
    let rises : IsRaised c.args.self.now.floor c.args.seen.now.ctime c.raised-floor.result = simp to_z-of_z at c.raised-floor.ensures in
    let appended = appended_kept low kept all c.args.at c.args.seen.now c.args.self.now.floor c.raised-floor.result rises c.turn_if_due-tail.result (world c.turn_if_due-tail.new.files) c.append-tail.result (world c.append-tail.new.files) c.append-tail.ensures turned in
    let first = turn_stays_there before low kept all _ c.args.self.now.floor c.args.self.now.tail (world c.args.self.now.files) c.turn_if_due-tail.result (world c.turn_if_due-tail.new.files) c.turn_if_due-tail.ensures is in
    let second = append_stays_there before c.args.at c.args.seen.now c.turn_if_due-tail.result (world c.turn_if_due-tail.new.files) c.append-tail.result (world c.append-tail.new.files) c.append-tail.ensures in
    let third = c.mend.ensures.there low (kept_after c.append-tail.result kept more) more appended before in
    there_twice before (world c.args.self.now.files) (world c.append-tail.new.files) (world c.mend.new.self.files)
    (there_twice before (world c.args.self.now.files) (world c.turn_if_due-tail.new.files) (world c.append-tail.new.files) first second) third
