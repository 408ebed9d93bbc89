use Rattle.std.proofs.Common.{◌≡◌, ℕ, ◌<◌, ◌≤◌, length, get_or, bit_xor}
use Rattle.prf_kdf.proofs.pbkdf2.xor_into.Given as goal

abbrev pub invariant-loop-i : goal.invariant-loop-i
invariant-loop-i l = record {
  len : length l.total ≡ length l.fn.total;
  front : (k : ℕ) → k < l.i → get_or l.total k 0 ≡ bit_xor (get_or l.fn.total k 0) (get_or l.piece k 0);
  rest : (k : ℕ) → l.i ≤ k → get_or l.total k 0 ≡ get_or l.fn.total k 0;
}
