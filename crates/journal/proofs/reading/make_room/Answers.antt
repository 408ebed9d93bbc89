use Rattle.std.proofs.Common.{rules, SFits, w64, ap, ◌∙◌}
use Rattle.std.proofs.lemmas.Int.{to_z-of_z}
use Rattle.journal.specs.Decision.{recent}
use Rattle.journal.proofs.Recent.{recent_twice}
use Rattle.journal.proofs.reading.make_room.Goals as goal

pub returns : goal.returns
returns c =
    λ later under.
    let fits : SFits w64 c.args.latest = search rules in
    ap (λ es. recent later es) (simp to_z-of_z at c.drop_old.ensures) ∙ recent_twice c.args.latest later under c.args.entries.now.items
