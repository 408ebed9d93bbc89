use Rattle.std.proofs.Common.{◌≡◌, ℕ, ◌<◌, ◌≤◌, length, get_or}
use Rattle.std.specs.Int.{w32, to_be_bytes}
use Rattle.aes_cts.specs.Words.{unmixed_cells}
use Rattle.aes_cts.proofs.key_expansion.inverse_schedule.Given as goal

abbrev pub invariant-loop-i : goal.invariant-loop-i
invariant-loop-i l = record {
  size : length l.inverse ≡ 60;
  front : (k : ℕ) → k < 4 → get_or l.inverse k 0 ≡ get_or l.schedule k 0;
  done : (k : ℕ) → 4 ≤ k → k < l.i → to_be_bytes w32 (get_or l.inverse k 0) ≡ unmixed_cells
      (to_be_bytes w32 (get_or l.schedule k 0));
  rest : (k : ℕ) → l.i ≤ k → get_or l.inverse k 0 ≡ get_or l.schedule k 0;
}
