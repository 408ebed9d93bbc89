-- The blocks of DR, in order, in the output.
use Rattle.std.proofs.Common.{◌≡◌, ℕ, zero, suc, ◌+◌, ◌*◌, ◌≤◌, List, [], ◌++◌}
use Rattle.std.proofs.Common.{take, length, refl, sym, ap, ◌∙◌, arith, add-one, length-append}
use Rattle.std.proofs.lemmas.List.{take_all, length-take-le}
use Rattle.std.proofs.lemmas.Grind.{div_ceil_times}
use Rattle.std.specs.Int.{div_ceil}
use Rattle.aes_cts.specs.State.{add_round_key}
use Rattle.aes_cts.specs.Cipher.{cipher, aes}
use Rattle.prf_kdf.specs.Fold.{n_fold}
use Rattle.enctypes.specs.Derivation.{dr_block, dr_blocks, dr}

length-aes : (key block : List ℕ) → length (aes key block) ≡ 16
unfolding aes cipher add_round_key
length-aes key block = refl

pub dr_block_first : (key constant : List ℕ) → dr_block key constant 0 ≡ aes key (n_fold constant 16)
unfolding dr_block
dr_block_first key constant = refl

pub dr_block_more : (key constant : List ℕ) (n : ℕ) → dr_block key constant (n + 1) ≡ aes key (dr_block key constant n)
unfolding dr_block
dr_block_more key constant n = rw add-one refl

pub dr_blocks_none : (key constant : List ℕ) → dr_blocks key constant 0 ≡ []
unfolding dr_blocks
dr_blocks_none key constant = refl

pub dr_blocks_more : (key constant : List ℕ) (n : ℕ)
    → dr_blocks key constant (n + 1) ≡ dr_blocks key constant n ++ dr_block key constant n
unfolding dr_blocks
dr_blocks_more key constant n = rw add-one refl

pub length-dr_block : (key constant : List ℕ) (n : ℕ) → length (dr_block key constant n) ≡ 16
unfolding dr_block
length-dr_block key constant zero = length-aes key (n_fold constant 16)
length-dr_block key constant (suc n) = length-aes key (dr_block key constant n)

pub length-dr_blocks : (key constant : List ℕ) (n : ℕ) → length (dr_blocks key constant n) ≡ 16 * n
unfolding dr_blocks
length-dr_blocks key constant zero = refl
length-dr_blocks key constant (suc n) =
    omega (
      arith,
      length-append (dr_blocks key constant n) (dr_block key constant n),
      length-dr_blocks key constant n,
      length-dr_block key constant n,
    )

pub length-dr : (key constant : List ℕ) (len : ℕ) → length (dr key constant len) ≡ len
unfolding dr
length-dr key constant len =
    length-take-le len (dr_blocks key constant (div_ceil len 16))
    (omega (arith, div_ceil_times len 16 (omega arith), length-dr_blocks key constant (div_ceil len 16)))

-- an output that has the blocks it needs is that of DR
pub dr_is : (key constant out : List ℕ) (n : ℕ) → n ≡ div_ceil (length out) 16
    → take (16 * n) out ≡ take (length out) (dr_blocks key constant n) → out ≡ dr key constant (length out)
unfolding dr
dr_is key constant out n enough written =
    let all : length out ≤ 16 * n =
    omega (arith, div_ceil_times (length out) 16 (omega arith), ap (λ (k : ℕ). 16 * k) enough) in
    sym (take_all (16 * n) out all) ∙ written ∙ ap (λ (k : ℕ). take (length out) (dr_blocks key constant k)) enough
