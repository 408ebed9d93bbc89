use Rattle.std.proofs.Common.{rules, ◌+◌, ◌∷◌, [], SFits, w64, refl, subst}
use Rattle.std.proofs.lemmas.Int.{to_z-of_z}
use Rattle.journal.specs.Showing.{AreFrom}
use Rattle.journal.proofs.Walks.{one_on, one_taken, one_floor}
use Rattle.journal.proofs.showing.step.Goals as goal

pub returns-in-Some-clause-found : goal.returns-in-Some-clause-found
returns-in-Some-clause-found c =
    let fits : SFits w64 c.in-Some.found.floor = search rules in
    let (e, stands, floor, len) = c.in-Some.ensures.some in (
      e ∷ [],
      one_floor c.args.walk.floor c.in-Some.found.floor c.greater.result e (simp to_z-of_z at c.greater.ensures) floor,
      λ others are.
          one_taken c.args.text.now c.args.walk.place e stands others
          (subst (λ n. AreFrom c.args.text.now (c.args.walk.place + n) others) len are),
    )

pub returns-in-None-clause-found : goal.returns-in-None-clause-found
returns-in-None-clause-found c = ([], refl, λ others are. one_on c.args.text.now c.args.walk.place c.in-None.ensures.none others are)
