use Rattle.std.proofs.Common.{◌≡◌, ℕ, ◌+◌, ◌-◌, ◌*◌, ◌^◌, ◌<◌, ◌≤◌, length, drop, get_or}
use Rattle.prf_kdf.specs.Fold.{number, piece_of_copies}
use Rattle.prf_kdf.proofs.fold.add_piece.Given as goal

-- the bytes from i on hold the sum of those of the total and the piece, without the carry
abbrev pub invariant-loop-i : goal.invariant-loop-i
invariant-loop-i l = record {
  len : length l.total ≡ length l.fn.total;
  octets : (j : ℕ) → get_or l.total j 0 < 256;
  bound : l.carry ≤ 1;
  sum : l.carry * 2 ^ (8 * (length l.fn.total - l.i)) + number (drop l.i l.total)
      ≡ number (drop l.i l.fn.total) + number (drop l.i (piece_of_copies l.input l.start (length l.fn.total)));
  front : (j : ℕ) → j < l.i → get_or l.total j 0 ≡ get_or l.fn.total j 0;
}
