-- The blocks of PBKDF2, in order, in the output.
use Rattle.std.proofs.Common.{◌≡◌, ℕ, zero, suc, ◌+◌, ◌-◌, ◌*◌, ◌≤◌, ◌<◌, List, [], ◌++◌, take, length, refl, sym, ap}
use Rattle.std.proofs.Common.{◌∙◌, arith, add-one, min, ⊎_elim, length-append, length-take, length-drop}
use Rattle.std.proofs.Math.Seq.{take-append-add}
use Rattle.std.proofs.lemmas.Bool.{cases_lt}
use Rattle.std.proofs.lemmas.List.{take_all}
use Rattle.std.proofs.lemmas.Slice.{take-put_mid}
use borrow.Rule.Slice.PartMut.{put_mid}
use Rattle.std.specs.Int.{w32, to_be_bytes, div_ceil}
use Rattle.std.proofs.lemmas.Grind.{div_ceil_times}
use Rattle.prf_kdf.specs.Pbkdf2.{pbkdf2_block, pbkdf2_blocks, pbkdf2}
use Rattle.prf_kdf.proofs.Iterates.{length-iterates_xor}

pub pbkdf2_blocks_none : (prf : List ℕ → List ℕ) (salt : List ℕ) (count : ℕ) → pbkdf2_blocks prf salt count 0 ≡ []
unfolding pbkdf2_blocks
pbkdf2_blocks_none prf salt count = refl

pub pbkdf2_blocks_more : (prf : List ℕ → List ℕ) (salt : List ℕ) (count n : ℕ)
    → pbkdf2_blocks prf salt count (n + 1) ≡ pbkdf2_blocks prf salt count n ++ pbkdf2_block prf salt count (n + 1)
unfolding pbkdf2_blocks
pbkdf2_blocks_more prf salt count n = rw add-one refl

pub length-pbkdf2_block : (prf : List ℕ → List ℕ) (size : ℕ) → ((m : List ℕ) → length (prf m) ≡ size)
    → (salt : List ℕ) (count i : ℕ) → length (pbkdf2_block prf salt count i) ≡ size
length-pbkdf2_block prf size fixed salt count i =
    length-iterates_xor prf size fixed _ (count - 1) (fixed (salt ++ to_be_bytes w32 i))

pub length-pbkdf2_blocks : (prf : List ℕ → List ℕ) (size : ℕ) → ((m : List ℕ) → length (prf m) ≡ size)
    → (salt : List ℕ) (count n : ℕ) → length (pbkdf2_blocks prf salt count n) ≡ size * n
unfolding pbkdf2_blocks
length-pbkdf2_blocks prf size fixed salt count zero = omega arith
length-pbkdf2_blocks prf size fixed salt count (suc n) =
    omega (
      arith,
      length-append (pbkdf2_blocks prf salt count n) (pbkdf2_block prf salt count (suc n)),
      length-pbkdf2_blocks prf size fixed salt count n,
      length-pbkdf2_block prf size fixed salt count (suc n),
    )

-- the front of a block that ends the output or is followed by another
fits : (block : List ℕ) (room size : ℕ) → length block ≡ size → take (min room size) block ≡ take room block
fits block room size len = ⊎_elim
    (λ (short : room < size). let e : min room size ≡ room = omega arith in rw e refl)
    (λ (whole : size ≤ room).
    let e : min room size ≡ size = omega arith in
    rw e (take_all size block (omega arith) ∙ sym (take_all room block (omega arith))))
    (cases_lt room size)

-- one more block in the output
pub blocks_written : (out piece blocks block : List ℕ) (start end size : ℕ) → start ≤ length out
    → end ≡ min (length out) (start + size)
    → length block ≡ size → length blocks ≡ start → piece ≡ take (end - start) block
    → take start out ≡ take (length out) blocks
    → take (start + size) (put_mid start (end - start) out piece) ≡ take (length out) (blocks ++ block)
blocks_written out piece blocks block start end size inside ends len at is front =
    let room : ℕ = length out - start in
    let len_piece : length piece ≡ end - start = omega (arith, ap length is, length-take (end - start) block) in
    let front_is : take start out ≡ blocks = front ∙ take_all (length out) blocks (omega arith) in
    let cut : end - start ≡ min room size = omega arith in
    let piece_is : piece ≡ take room block = is ∙ ap (λ n. take n block) cut ∙ fits block room size len in
    let both : take (length out) (blocks ++ block) ≡ blocks ++ take room block =
    let e : length out ≡ length blocks + room = omega arith in
    ap (λ n. take n (blocks ++ block)) e ∙ take-append-add blocks block room in
    let written : take (start + size) (put_mid start (end - start) out piece) ≡ take start out ++ piece = ⊎_elim
    (λ (short : room < size).
    let whole : length (put_mid start (end - start) out piece) ≡ length out =
    simp (length-append, length-take, length-drop) (omega arith) in
    take_all (start + size) (put_mid start (end - start) out piece) (omega arith)
    ∙ sym (take_all (length out) (put_mid start (end - start) out piece) (omega arith))
    ∙ take-put_mid start (end - start) out piece (length out) (omega arith) inside)
    (λ (long : size ≤ room). take-put_mid start (end - start) out piece (start + size) (omega arith) inside)
    (cases_lt room size) in
    written ∙ ap (λ l. l ++ piece) front_is ∙ ap (λ l. blocks ++ l) piece_is ∙ sym both

-- an output with as many blocks as it needs
pub pbkdf2_is : (prf : List ℕ → List ℕ) (size : ℕ) (salt : List ℕ) (count i : ℕ) (out : List ℕ) → 0 < size
    → i ≡ div_ceil (length out) size
    → take (size * i) out ≡ take (length out) (pbkdf2_blocks prf salt count i)
    → out ≡ pbkdf2 prf size salt count (length out)
unfolding pbkdf2
pbkdf2_is prf size salt count i out some enough written =
    let all : length out ≤ size * i = omega (arith, div_ceil_times (length out) size some, ap (λ n. size * n) enough) in
    sym (take_all (size * i) out all) ∙ written ∙ ap (λ n. take (length out) (pbkdf2_blocks prf salt count n)) enough
