use Rattle.std.proofs.Common.{length, take}
use Rattle.kdcd.specs.Field.{AreKeyTexts}
use Rattle.kdcd.proofs.KeyTexts.{parts_of}
use Rattle.kdcd.proofs.field.keys.Given as goal

-- the keys so far are those of the parts that were read
abbrev pub invariant-loop-part : goal.invariant-loop-part
invariant-loop-part l = AreKeyTexts l.keys.items (take (length l.yielded) (parts_of l.text))
