use Rattle.std.proofs.Common.{◌≡◌, take}
use Rattle.prf_kdf.specs.Fold.{number}
use Rattle.prf_kdf.proofs.fold.word_of.Given as goal

abbrev pub invariant-loop-i : goal.invariant-loop-i
invariant-loop-i l = l.word ≡ number (take l.i l.octets)
