use Rattle.std.proofs.Common.{rules, None, Some, true, false, SFits, w64, pos, ◌-ℤ◌}
use Rattle.std.specs.Prelude.{IfSome}
use Rattle.std.proofs.lemmas.Int.{to_z-of_z}
use Rattle.krb_fields.specs.Skew.{skew}
use Rattle.journal.specs.Appending.{HasTail}
use Rattle.journal.specs.Holding.{IsKept, IsSafe, IsStart, known_by}
use Rattle.journal.proofs.Keeps.{turned_kept}
use Rattle.journal.proofs.Seals.{sealed_safe, sealed_start, unsealed}
use Rattle.journal.proofs.Starts.{start_fails, start_goes_on, start_in_place}
use Rattle.journal.proofs.Staying.{all_over, failed_start_there, start_stays_there, there_twice, turn_stays_there, unsealed_there}
use Rattle.journal.proofs.journal_file.JournalFile.start.Goals as goal

pub returns-in-Some-clause-kept : goal.returns-in-Some-clause-kept
returns-in-Some-clause-kept g c =
    λ floor floor_is starts.
    let world = g.F.JournalFiles.world in
    let newer = c.args.newer.now in
    let start = c.args.start.now in
    let low = c.args.at.sec -ℤ pos skew in
    let known = known_by floor start in
    let fits : SFits w64 c.in-Some.floor = search rules in
    let broken : IfSome (world c.unseal.new.self) (IsStart c.args.at floor newer start) =
    unsealed (IsStart c.args.at floor newer start) (λ w seal is. sealed_start c.args.at floor newer start w seal is) true (world c.args.self.now.files) (world c.unseal.new.self) c.in_ok-unseal.ensures starts in
    let on : IfSome (world c.unseal.new.self) (λ w. IsKept low known known w (Some c.in-Some.tail) (Some c.in-Some.floor)) =
    start_goes_on c.args.at floor newer start (c.in-Some.tail, c.in-Some.floor) (world c.unseal.new.self) c.in-Some.ensures broken in
    simp to_z-of_z
    (turned_kept low known known _ (Some c.in-Some.floor) (Some c.in-Some.tail) (world c.unseal.new.self) c.turn_if_due-self.result (world c.turn_if_due-self.new.files) (simp to_z-of_z at c.turn_if_due-self.ensures) on)

pub returns-in-Ok-clause-kept : goal.returns-in-Ok-clause-kept
returns-in-Ok-clause-kept g c =
    λ floor floor_is starts.
    let world = g.F.JournalFiles.world in
    let newer = c.args.newer.now in
    let start = c.args.start.now in
    let none : HasTail start newer None = search rules in
    let broken : IfSome (world c.unseal.new.self) (IsStart c.args.at floor newer start) =
    unsealed (IsStart c.args.at floor newer start) (λ w seal is. sealed_start c.args.at floor newer start w seal is) true (world c.args.self.now.files) (world c.unseal.new.self) c.in_ok-unseal.ensures starts in
    start_in_place c.args.at floor newer start none _ c.args.self.now.floor floor_is c.in-Ok.tail (world c.unseal.new.self) (world c.begin_in_place.new.files) c.in-Ok.ensures broken

pub returns-in_err-unseal-clause-safe : goal.returns-in_err-unseal-clause-safe
returns-in_err-unseal-clause-safe g c =
    λ low r safe failed.
    unsealed (IsSafe low r) (λ w seal is. sealed_safe low r w seal is) false (g.F.JournalFiles.world c.args.self.now.files) (g.F.JournalFiles.world c.unseal.new.self) c.in_err-unseal.ensures safe

pub returns-in-Err-clause-safe : goal.returns-in-Err-clause-safe
returns-in-Err-clause-safe g c =
    λ low r safe failed.
    let world = g.F.JournalFiles.world in
    let broken = unsealed (IsSafe low r) (λ w seal is. sealed_safe low r w seal is) true (world c.args.self.now.files) (world c.unseal.new.self) c.in_ok-unseal.ensures safe in
    start_fails low r _ c.args.self.now.floor (world c.unseal.new.self) (world c.begin_in_place.new.files) broken c.in-Err.ensures

pub returns-in-Some-clause-there : goal.returns-in-Some-clause-there
returns-in-Some-clause-there g c =
    λ floor before floor_is starts counts.
    let world = g.F.JournalFiles.world in
    let newer = c.args.newer.now in
    let start = c.args.start.now in
    let low = c.args.at.sec -ℤ pos skew in
    let known = known_by floor start in
    let fits : SFits w64 c.in-Some.floor = search rules in
    let broken : IfSome (world c.unseal.new.self) (IsStart c.args.at floor newer start) =
    unsealed (IsStart c.args.at floor newer start) (λ w seal is. sealed_start c.args.at floor newer start w seal is) true (world c.args.self.now.files) (world c.unseal.new.self) c.in_ok-unseal.ensures starts in
    let on : IfSome (world c.unseal.new.self) (λ w. IsKept low known known w (Some c.in-Some.tail) (Some c.in-Some.floor)) =
    start_goes_on c.args.at floor newer start (c.in-Some.tail, c.in-Some.floor) (world c.unseal.new.self) c.in-Some.ensures broken in
    there_twice before (world c.args.self.now.files) (world c.unseal.new.self) (world c.turn_if_due-self.new.files)
    (unsealed_there before true (world c.args.self.now.files) (world c.unseal.new.self) c.in_ok-unseal.ensures)
    (turn_stays_there before low known known _ (Some c.in-Some.floor) (Some c.in-Some.tail) (world c.unseal.new.self) c.turn_if_due-self.result (world c.turn_if_due-self.new.files) (simp to_z-of_z at c.turn_if_due-self.ensures) on)

pub returns-in-Ok-clause-there : goal.returns-in-Ok-clause-there
returns-in-Ok-clause-there g c =
    λ floor before floor_is starts counts.
    let world = g.F.JournalFiles.world in
    let newer = c.args.newer.now in
    let start = c.args.start.now in
    let none : HasTail start newer None = search rules in
    let broken : IfSome (world c.unseal.new.self) (IsStart c.args.at floor newer start) =
    unsealed (IsStart c.args.at floor newer start) (λ w seal is. sealed_start c.args.at floor newer start w seal is) true (world c.args.self.now.files) (world c.unseal.new.self) c.in_ok-unseal.ensures starts in
    there_twice before (world c.args.self.now.files) (world c.unseal.new.self) (world c.begin_in_place.new.files)
    (unsealed_there before true (world c.args.self.now.files) (world c.unseal.new.self) c.in_ok-unseal.ensures)
    (start_stays_there before floor _ c.args.self.now.floor floor_is c.in-Ok.tail (world c.unseal.new.self) (world c.begin_in_place.new.files) c.in-Ok.ensures
    (all_over c.args.at floor newer start none before counts (world c.unseal.new.self) broken))

pub returns-in_err-unseal-clause-stays : goal.returns-in_err-unseal-clause-stays
returns-in_err-unseal-clause-stays g c =
    λ before failed.
    unsealed_there before false (g.F.JournalFiles.world c.args.self.now.files) (g.F.JournalFiles.world c.unseal.new.self) c.in_err-unseal.ensures

pub returns-in-Err-clause-stays : goal.returns-in-Err-clause-stays
returns-in-Err-clause-stays g c =
    λ before failed.
    let world = g.F.JournalFiles.world in
    there_twice before (world c.args.self.now.files) (world c.unseal.new.self) (world c.begin_in_place.new.files)
    (unsealed_there before true (world c.args.self.now.files) (world c.unseal.new.self) c.in_ok-unseal.ensures)
    (failed_start_there before _ c.args.self.now.floor (world c.unseal.new.self) (world c.begin_in_place.new.files) c.in-Err.ensures)
