use Rattle.std.proofs.Common.{◌≡◌, ◌*◌, ◌%◌}
use Rattle.prf_kdf.specs.Fold.{number, rotated_copies, end_around_carry}
use Rattle.prf_kdf.proofs.fold.fold_to_block.Given as goal

abbrev pub invariant-loop-copy : goal.invariant-loop-copy
invariant-loop-copy l = record {
  total : l.total ≡ end_around_carry 128 (number (rotated_copies l.input l.copy));
  turn : l.turn ≡ 13 * l.copy % 40;
}
