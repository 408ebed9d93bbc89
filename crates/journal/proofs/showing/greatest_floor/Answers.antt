use Rattle.std.proofs.Common.{rules}
use Rattle.journal.proofs.Walks.{all_walked, more_walked}
use Rattle.journal.proofs.showing.greatest_floor.Goals as goal

pub loop-walk-preserved : goal.loop-walk-preserved
loop-walk-preserved c =
    let (es, floor, goes_on) = c.step-walk.ensures.found in
    more_walked c.args.text.now c.args.from c.args.floor c.loop-walk.walk.place c.loop-walk.walk.floor c.loop-walk.invariant
    c.step-walk.result.place c.step-walk.result.floor es floor c.step-walk.ensures.within goes_on

pub returns : goal.returns
returns c =
    all_walked c.args.text.now c.args.from c.args.floor c.loop-walk.walk.place c.loop-walk.walk.floor c.loop-walk.invariant (search rules)
