use Rattle.std.proofs.Common.{rules, ◌≡◌, false, is_some, subst}
use Rattle.journal.specs.Holding.{HasKept, kept_after}
use Rattle.journal.proofs.Keeps.{mended_kept, none_lacks}
use Rattle.journal.proofs.Staying.{mend_stays_there}
use Rattle.journal.proofs.journal_file.JournalFile.mend.Goals as goal

pub returns-in-Some-clause-kept : goal.returns-in-Some-clause-kept
returns-in-Some-clause-kept g c =
    λ low kept all is.
    let none : is_some c.args.self.now.tail ≡ false = search rules in
    let world = g.F.JournalFiles.world in
    subst (λ t. HasKept world low (kept_after t kept all) all c.begin_anew-tail.new.files c.begin_anew-tail.result c.args.self.now.floor) c.in-Some.is
    (mended_kept low kept all _ c.args.self.now.floor (world c.args.self.now.files) c.begin_anew-tail.result (world c.begin_anew-tail.new.files) c.begin_anew-tail.ensures
    (none_lacks low kept all c.args.self.now.tail c.args.self.now.floor (world c.args.self.now.files) none is))

pub returns-in-Some-clause-there : goal.returns-in-Some-clause-there
returns-in-Some-clause-there g c =
    λ low kept all is before.
    let none : is_some c.args.self.now.tail ≡ false = search rules in
    let world = g.F.JournalFiles.world in
    mend_stays_there before low kept all _ c.args.self.now.floor (world c.args.self.now.files) c.begin_anew-tail.result (world c.begin_anew-tail.new.files) c.begin_anew-tail.ensures
    (none_lacks low kept all c.args.self.now.tail c.args.self.now.floor (world c.args.self.now.files) none is)

pub returns-in-None-clause-there : goal.returns-in-None-clause-there
returns-in-None-clause-there g c =
    λ low kept all is before.
    let none : is_some c.args.self.now.tail ≡ false = search rules in
    let world = g.F.JournalFiles.world in
    mend_stays_there before low kept all _ c.args.self.now.floor (world c.args.self.now.files) c.begin_anew-tail.result (world c.begin_anew-tail.new.files) c.begin_anew-tail.ensures
    (none_lacks low kept all c.args.self.now.tail c.args.self.now.floor (world c.args.self.now.files) none is)

pub returns-in-None-clause-kept : goal.returns-in-None-clause-kept
returns-in-None-clause-kept g c =
    λ low kept all is.
    let none : is_some c.args.self.now.tail ≡ false = search rules in
    let world = g.F.JournalFiles.world in
    subst (λ t. HasKept world low (kept_after t kept all) all c.begin_anew-tail.new.files c.begin_anew-tail.result c.args.self.now.floor) c.in-None.is
    (mended_kept low kept all _ c.args.self.now.floor (world c.args.self.now.files) c.begin_anew-tail.result (world c.begin_anew-tail.new.files) c.begin_anew-tail.ensures
    (none_lacks low kept all c.args.self.now.tail c.args.self.now.floor (world c.args.self.now.files) none is))
