use Rattle.std.proofs.Common.{◌≡◌, ◌*◌, length, take}
use Rattle.aes_cts.specs.Words.{octets}
use Rattle.aes_cts.proofs.key_expansion.key_words.Given as goal

abbrev pub invariant-loop-i : goal.invariant-loop-i
invariant-loop-i g l = record {
  size : length l.words ≡ 60;
  done : take (4 * l.i) (octets l.words) ≡ take (4 * l.i) l.key;
}
