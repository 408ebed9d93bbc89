use Rattle.std.proofs.Common.{rules, ◌∙◌, Some, None, SFits, w64, ap, subst}
use Rattle.std.proofs.lemmas.Int.{to_z-of_z}
use Rattle.journal.specs.Showing.{AreFrom, floor_with}
use Rattle.journal.proofs.showing.shown_in.Goals as goal

pub returns-in-Some : goal.returns-in-Some
returns-in-Some c =
    let fits : SFits w64 c.in-Some.head.floor = search rules in
    let (h, begins, floor, len) = c.in-Some.ensures.some in
    let (es, are, shown) = (simp to_z-of_z at c.greatest_floor.ensures) in (
      record { head = Some h; entries = es },
      record { head = begins; entries = subst (λ n. AreFrom c.args.text.now n es) len are },
      shown ∙ ap (λ x. floor_with (Some x) es) floor,
    )

pub returns-in-None : goal.returns-in-None
returns-in-None c =
    let (es, are, floor) = c.greatest_floor-in-None.ensures in
    (record { head = None; entries = es }, record { head = c.in-None.ensures.none; entries = are }, floor)
