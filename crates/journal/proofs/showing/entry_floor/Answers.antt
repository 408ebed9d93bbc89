use Rattle.std.proofs.Common.{rules, ◌∙◌, ◌+ℤ◌, pos, SFits, w32, w64, ap}
use Rattle.std.proofs.lemmas.Int.{to_z-of_z}
use Rattle.journal.specs.Decision.{floor_since}
use Rattle.journal.proofs.showing.entry_floor.Goals as goal

pub returns : goal.returns
returns c =
    let seconds : SFits w64 c.seconds.result = search rules in
    let more : SFits w64 (c.seconds.result +ℤ pos 1) = search rules in
    let came : SFits w64 c.came.result = search rules in
    let age : SFits w32 c.args.entry.now.age = search rules in
    let floor : SFits w64 c.floor_since.result = search rules in
    simp to_z-of_z
    ((simp to_z-of_z at c.floor_since.ensures)
    ∙ (ap (λ s. floor_since (s +ℤ pos 1) c.came.result) c.seconds.ensures.value
    ∙ ap (floor_since (c.args.entry.now.ctime +ℤ pos 1)) (simp to_z-of_z at c.came.ensures)))
