use Rattle.std.proofs.Common.{◌≡◌, ℕ, ◌*◌, ◌/◌, ◌<◌, length, get_or}
use Rattle.prf_kdf.specs.Fold.{number, lcm, rotated_copies, pieces_sum, end_around_carry}
use Rattle.prf_kdf.proofs.fold.fold_by_pieces.Given as goal

-- the output is the sum of the pieces so far, with end-around carry
abbrev pub invariant-loop-piece : goal.invariant-loop-piece
invariant-loop-piece l =
    let n : ℕ = length l.fn.out in
    let copies : ℕ = lcm (length l.input) n / length l.input in
    record {
      octets : (i : ℕ) → get_or l.out i 0 < 256;
      sum : number l.out ≡ end_around_carry (8 * n) (pieces_sum n (rotated_copies l.input copies) l.piece);
    }
