use Rattle.std.proofs.Common.{◌≡◌, ℕ, ◌+◌, ◌-◌, ◌*◌, ◌≤◌, List, [], length, take, min, arith, sym, ap, ◌∙◌}
use Rattle.std.proofs.lemmas.List.{take_all}
use Rattle.std.specs.Int.{div_ceil}
use Rattle.prf_kdf.proofs.Blocks.{blocks_written}
use Rattle.enctypes.specs.Derivation.{dr_block, dr_blocks}
use Rattle.enctypes.specs.RandomBlocks.{dr_block_first, dr_block_more, dr_blocks_none, dr_blocks_more}
use Rattle.enctypes.specs.RandomBlocks.{length-dr_block, length-dr_blocks, dr_is}
use Rattle.enctypes.proofs.simplified.derive_random.Goals as goal

pub loop-i-init : goal.loop-i-init
loop-i-init c =
    let key : List ℕ = c.args.cipher.now in
    let constant : List ℕ = c.args.constant.now in
    record {
      next = rw c.n_fold.ensures (sym (dr_block_first key constant));
      front = rw dr_blocks_none (sym (take_all {A = ℕ} (length c.args.out.now) [] (omega arith)));
    }

pub loop-i-preserved : goal.loop-i-preserved
loop-i-preserved c =
    let key : List ℕ = c.args.cipher.now in
    let constant : List ℕ = c.args.constant.now in
    let out : List ℕ = c.loop-i.out in
    let i : ℕ = c.loop-i.i in
    let end : ℕ = c.min-end.result in
    let same_len : length out ≡ length c.args.out.now = omega arith in
    let block : c.encrypt_block-block.result ≡ dr_block key constant i =
    c.encrypt_block-block.ensures.value ∙ c.loop-i.invariant.next in
    let inside : 16 * i ≤ length out = omega arith in
    let ends : end ≡ min (length out) (16 * i + 16) = rw same_len c.min-end.ensures in
    let piece : c.copy_from_slice.new.self ≡ take (end - 16 * i) (dr_block key constant i) =
    c.copy_from_slice.ensures.after ∙ ap (take (end - 16 * i)) block in
    let front : take (16 * i) out ≡ take (length out) (dr_blocks key constant i) =
    rw same_len c.loop-i.invariant.front in
    let next : 16 * (i + 1) ≡ 16 * i + 16 = omega arith in
    record {
      next = rw block (sym (dr_block_more key constant i));
      front = rw (next, dr_blocks_more key constant i, ← same_len)
          (blocks_written out c.copy_from_slice.new.self (dr_blocks key constant i) (dr_block key constant i) (16 * i)
          end 16 inside ends (length-dr_block key constant i) (length-dr_blocks key constant i) piece front);
    }

pub returns : goal.returns
returns c =
    let len : ℕ = length c.args.out.now in
    let same_len : length c.loop-i.out ≡ len = omega arith in
    let test = c.loop-i-test.false in
    let enough : c.loop-i.i ≡ div_ceil len 16 = omega arith in
    rw (← same_len)
    (dr_is c.args.cipher.now c.args.constant.now c.loop-i.out c.loop-i.i (enough ∙ ap (λ (n : ℕ). div_ceil n 16) (sym same_len))
    (rw same_len c.loop-i.invariant.front))
