use Rattle.std.proofs.Common.{◌≡◌, ℕ, ◌+◌, ◌-◌, List, ◌++◌, length, take, arith, refl, sym, ap, ◌∙◌}
use Rattle.std.specs.Int.{w32, to_be_bytes}
use Rattle.std.proofs.lemmas.List.{take_at, append-nil}
use Rattle.prf_kdf.specs.Hmac.{hmac_of_block}
use Rattle.prf_kdf.specs.Pbkdf2.{iterate, pbkdf2_block}
use Rattle.prf_kdf.proofs.Iterates.{iterate_none, iterates_xor_none, iterate_more, iterates_xor_more}
use Rattle.prf_kdf.proofs.pbkdf2.write_block.Goals as goal

pub loop-init : goal.loop-init
loop-init g c = λ block holds.
    let prf : List ℕ → List ℕ = hmac_of_block g.H.Hasher.hash block in
    let first : c.write_mac.new.out ≡ prf (c.args.salt.now ++ to_be_bytes w32 c.args.index) =
    c.write_mac.ensures.mac block holds ∙ rw (append-nil, c.to_be_bytes.ensures) refl in
    let octet_of_copies : take c.SIZE-2.result c.padded_block-total.result ≡ c.write_mac.new.out =
    rw (c.padded_block-total.ensures, c.SIZE-2.ensures)
    (take_at c.write_mac.new.out _ g.H.Hasher.SIZE c.write_mac.ensures.len) in
    (first ∙ sym (iterate_none prf _), octet_of_copies ∙ first ∙ sym (iterates_xor_none prf _))

pub loop-preserved : goal.loop-preserved
loop-preserved g c = λ block holds.
    let prf : List ℕ → List ℕ = hmac_of_block g.H.Hasher.hash block in
    let inv = c.loop.invariant block holds in
    let n : ℕ = c.loop.counter - 1 in
    let count : c.loop.counter + 1 - 1 ≡ n + 1 = omega arith in
    let next : c.iterate_once.new.last ≡ iterate prf (prf (c.args.salt.now ++ to_be_bytes w32 c.args.index)) (n + 1) =
    c.iterate_once.ensures.next block holds ∙ ap prf inv.0 ∙ sym (iterate_more prf _ n) in
    rw count (next, c.iterate_once.ensures.total ∙ rw (inv.1, next) (sym (iterates_xor_more prf _ n)))

pub returns : goal.returns
returns g c = λ block holds.
    let prf : List ℕ → List ℕ = hmac_of_block g.H.Hasher.hash block in
    let count : c.loop.counter ≡ c.args.count = omega arith in
    let total : c.loop.total ≡ pbkdf2_block prf c.args.salt.now c.args.count c.args.index =
    (c.loop.invariant block holds).1 ∙ ap (λ (n : ℕ). pbkdf2_block prf c.args.salt.now n c.args.index) count in
    c.copy_from_slice.ensures.after ∙ ap (take (length c.args.out.now)) total
