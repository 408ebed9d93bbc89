use Rattle.std.proofs.Common.{◌≡◌, ◌*◌, length, take}
use Rattle.aes_cts.specs.Cipher.{aes}
use Rattle.enctypes.specs.Derivation.{dr_block, dr_blocks}
use Rattle.enctypes.proofs.simplified.derive_random.Given as goal

-- the front of the output is that of the blocks so far, and the current block gives the next one
abbrev pub invariant-loop-i : goal.invariant-loop-i
invariant-loop-i l = record {
  next : aes l.cipher l.block ≡ dr_block l.cipher l.fn.constant l.i;
  front : take (16 * l.i) l.out ≡ take (length l.fn.out) (dr_blocks l.cipher l.fn.constant l.i);
}
