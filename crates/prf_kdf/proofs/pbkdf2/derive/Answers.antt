use Rattle.std.proofs.Common.{◌≡◌, ℕ, ◌+◌, ◌-◌, ◌*◌, ◌/◌, ◌≤◌, List, [], length}
use Rattle.std.proofs.Common.{take, drop, min, arith, sym, ap, ◌∙◌, length-take, length-drop}
use Rattle.std.proofs.lemmas.List.{take_all}
use Rattle.std.proofs.lemmas.Nat.{mul-le}
use Rattle.std.specs.Int.{div_ceil}
use Rattle.prf_kdf.specs.Hmac.{hmac, key_block}
use Rattle.prf_kdf.specs.Pbkdf2.{pbkdf2_block, pbkdf2_blocks}
use Rattle.prf_kdf.proofs.Blocks.{pbkdf2_blocks_none, pbkdf2_blocks_more, length-pbkdf2_block}
use Rattle.prf_kdf.proofs.Blocks.{length-pbkdf2_blocks, blocks_written, pbkdf2_is}
use Rattle.prf_kdf.proofs.Lengths.{length-hmac}
use Rattle.prf_kdf.proofs.pbkdf2.derive.Goals as goal

pub loop-i-init : goal.loop-i-init
loop-i-init g c =
    let prf : List ℕ → List ℕ = hmac g.H.Hasher.hash g.H.Hasher.BLOCK_LEN c.args.password.now in
    let start : g.H.Hasher.SIZE * 0 ≡ 0 = omega arith in
    rw (start, pbkdf2_blocks_none prf c.args.salt.now c.args.count)
    (sym (take_all {A = ℕ} (length c.args.out.now) [] (omega arith)))

pub loop-i-preserved : goal.loop-i-preserved
unfolding hmac
loop-i-preserved g c =
    let size : ℕ = g.H.Hasher.SIZE in
    let prf : List ℕ → List ℕ = hmac g.H.Hasher.hash g.H.Hasher.BLOCK_LEN c.args.password.now in
    let fixed : (m : List ℕ) → length (prf m) ≡ size =
    length-hmac g.H.Hasher.hash g.H.Hasher.BLOCK_LEN size g.met.H.Hasher.hash_len c.args.password.now in
    let out : List ℕ = c.loop-i.out in
    let i : ℕ = c.loop-i.i in
    let start : ℕ = c.SIZE-in-loop-i.result * i in
    let end : ℕ = c.min-end.result in
    let block : List ℕ = pbkdf2_block prf c.args.salt.now c.args.count (i + 1) in
    let blocks : List ℕ = pbkdf2_blocks prf c.args.salt.now c.args.count i in
    let same_len : length out ≡ length c.args.out.now = omega arith in
    let start_is : start ≡ size * i = ap (λ n. n * i) c.SIZE-in-loop-i.ensures in
    let len : ℕ = length c.args.out.now in
    let earlier : i ≤ len / size = omega (arith, ap (div_ceil len) c.SIZE.ensures) in
    let inside : start ≤ length out = omega (arith, mul-le i size (len / size) size earlier (omega arith)) in
    let ends : end ≡ min (length out) (start + size) = rw (same_len, ← c.SIZE-in-loop-i-2.ensures) c.min-end.ensures in
    let cut : length (take (end - start) (drop start out)) ≡ end - start =
    simp (length-take, length-drop) (omega arith) in
    let piece : c.write_block.new.out ≡ take (end - start) block =
    c.write_block.ensures (key_block g.H.Hasher.hash g.H.Hasher.BLOCK_LEN c.args.password.now) c.new-key.ensures
    ∙ ap (λ n. take n block) cut in
    let front : take start out ≡ take (length out) blocks = rw (start_is, same_len) c.loop-i.invariant in
    let next : size * (i + 1) ≡ start + size = omega arith in
    rw (next, pbkdf2_blocks_more prf c.args.salt.now c.args.count i, ← same_len)
    (blocks_written out c.write_block.new.out blocks block start end size inside ends
    (length-pbkdf2_block prf size fixed c.args.salt.now c.args.count (i + 1))
    (length-pbkdf2_blocks prf size fixed c.args.salt.now c.args.count i ∙ sym start_is) piece front)

pub returns : goal.returns
returns g c =
    let size : ℕ = g.H.Hasher.SIZE in
    let prf : List ℕ → List ℕ = hmac g.H.Hasher.hash g.H.Hasher.BLOCK_LEN c.args.password.now in
    let fits = g.met.H.Hasher.sizes_fit in
    let len : ℕ = length c.args.out.now in
    let same_len : length c.loop-i.out ≡ len = omega arith in
    let test = c.loop-i-test.false in
    let enough : c.loop-i.i ≡ div_ceil len size = omega (arith, ap (div_ceil len) c.SIZE.ensures) in
    rw (← same_len) (pbkdf2_is prf size c.args.salt.now c.args.count c.loop-i.i c.loop-i.out fits.0
    (enough ∙ ap (λ n. div_ceil n size) (sym same_len)) (rw same_len c.loop-i.invariant))
