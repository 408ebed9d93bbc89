use Rattle.std.proofs.Common.{◌≡◌, ℕ, ◌+◌, ◌-◌, ◌*◌, ◌^◌, ◌<◌, ◌≤◌, length, drop, get_or}
use Rattle.prf_kdf.specs.Fold.{number}
use Rattle.prf_kdf.proofs.fold.add_carry.Given as goal

-- the bytes from i on hold the sum of those of the total and the incoming carry, without the outgoing carry
abbrev pub invariant-loop-i : goal.invariant-loop-i
invariant-loop-i l = record {
  len : length l.total ≡ length l.fn.total;
  bound : l.carry ≤ 1;
  sum : l.carry * 2 ^ (8 * (length l.fn.total - l.i)) + number (drop l.i l.total)
      ≡ number (drop l.i l.fn.total) + l.fn.carry;
  front : (j : ℕ) → j < l.i → get_or l.total j 0 ≡ get_or l.fn.total j 0;
}
