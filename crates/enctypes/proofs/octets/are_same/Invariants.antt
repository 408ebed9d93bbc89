use Rattle.std.proofs.Common.{◌≡◌, ℕ, ◌<◌, get_or}
use Rattle.enctypes.proofs.octets.are_same.Given as goal

abbrev pub invariant-loop-i : goal.invariant-loop-i
invariant-loop-i l = record {
  agree : l.difference ≡ 0 → (k : ℕ) → k < l.i → get_or l.octets k 0 ≡ get_or l.others k 0;
  none : ((k : ℕ) → k < l.i → get_or l.octets k 0 ≡ get_or l.others k 0) → l.difference ≡ 0;
}
