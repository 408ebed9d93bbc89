use Rattle.std.proofs.Common.{◌≡◌, length, sym, ap, ◌∙◌, arith}
use Rattle.prf_kdf.specs.Fold.{n_fold}
use Rattle.prf_kdf.proofs.BlockFolds.{block_octets}
use Rattle.prf_kdf.proofs.fold.n_fold.Goals as goal

pub returns-then-out-eq-BLOCK_LEN : goal.returns-then-out-eq-BLOCK_LEN
returns-then-out-eq-BLOCK_LEN c =
    let block : length c.args.out.now ≡ 16 = omega arith in
    c.copy_from_slice.ensures.after ∙ c.to_be_bytes.ensures ∙ sym (block_octets c.fold_to_block.result)
    ∙ c.fold_to_block.ensures ∙ ap (n_fold c.args.input.now) (sym block)
