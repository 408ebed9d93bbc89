use Rattle.std.proofs.Common.{rules, ◌≡◌, ◌∙◌, ◌+ℤ◌, pos, SFits, w64, ap}
use Rattle.std.specs.Int.{int_max, int_min}
use Rattle.std.proofs.lemmas.Int.{to_z-of_z}
use Rattle.journal.specs.Decision.{last_second}
use Rattle.journal.proofs.Floors.{same_floor}
use Rattle.journal.proofs.decision.floor_since.Goals as goal

pub returns : goal.returns
returns c =
    let floor : SFits w64 c.args.floor = search rules in
    let second : SFits w64 c.args.second = search rules in
    let after : SFits w64 c.restart_floor.result = search rules in
    let max_fits : SFits w64 c.max.result = search rules in
    let min_fits : SFits w64 c.min.result = search rules in
    let a : c.restart_floor.result ≡ int_min (c.args.second +ℤ pos 301) last_second = simp to_z-of_z at c.restart_floor.ensures in
    let m : c.max.result ≡ int_max c.args.floor c.restart_floor.result = simp to_z-of_z at c.max.ensures.value in
    let n : c.min.result ≡ int_min c.max.result last_second = simp to_z-of_z at c.min.ensures.value in
    simp to_z-of_z
    (n ∙ (ap (λ x. int_min x last_second) (m ∙ ap (int_max c.args.floor) a) ∙ same_floor c.args.floor c.args.second))
