use Rattle.std.specs.List.{AllWithin}
use Rattle.cred_files.specs.declared.width.Width.TheVariants.{Four}
use Rattle.cred_files.proofs.room.all_have_room.Given as goal

abbrev pub invariant-loop-value : goal.invariant-loop-value
invariant-loop-value g l = AllWithin (g.T.Stored.format Four).form.Fits l.values 0 l.value-index
