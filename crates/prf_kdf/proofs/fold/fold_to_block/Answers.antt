use Rattle.std.proofs.Common.{◌≡◌, ℕ, ◌+◌, ◌*◌, ◌/◌, ◌%◌, ◌^◌, ◌<◌, List, length, sym, ap, subst, refl, ◌∙◌, arith}
use Rattle.std.proofs.Math.Nat.{mod-add-mod}
use Rattle.prf_kdf.specs.Fold.{number, rotate_right, rotated_copies, end_around_carry}
use Rattle.prf_kdf.proofs.BlockFolds.{rotated_left, number-copies_none, block_fold_more, block_fold_is, copy_turn}
use Rattle.prf_kdf.proofs.EndAround.{end_around_carry-lt}
use Rattle.std.specs.Int.{IsGcd}
use Rattle.std.proofs.lemmas.Nat.Gcd.{IsGcd-from_zero, IsGcd-from_mod}
use Rattle.prf_kdf.proofs.fold.fold_to_block.Goals as goal

-- sixteen is the least number of copies of five bytes that fill whole blocks
gcd_five : IsGcd 5 16 1
gcd_five = IsGcd-from_mod 5 16 1 (IsGcd-from_mod 16 5 1 (IsGcd-from_mod 5 1 1 (IsGcd-from_zero 1 0 refl)))

pub loop-copy-init : goal.loop-copy-init
loop-copy-init c = record {
  total = sym (ap (end_around_carry 128) (number-copies_none c.args.input.now));
  turn = omega arith;
}

pub loop-copy-preserved : goal.loop-copy-preserved
loop-copy-preserved c =
    let bs : List ℕ = c.args.input.now in
    let n : ℕ = 40 in
    let five : 8 * length bs ≡ 40 = omega arith in
    let i : ℕ = c.loop-copy.copy in
    let below : c.loop-copy.total < 2 ^ 128 =
    rw c.loop-copy.invariant.total (end_around_carry-lt 128 (number (rotated_copies bs i)) (omega arith)) in
    let next : 13 * i + 13 ≡ 13 * (i + 1) = omega arith in
    record {
      total = block_fold_more bs i c.loop-copy.total c.rotate_left.result c.turned_right.result c.sum_around-total.result
          (λ j. omega (arith, c.type_inv.input j)) (omega arith) c.loop-copy.invariant.total
          (c.rotate_left.ensures ∙ rotated_left c.loop-copy.total n (omega arith) (omega arith) below
          ∙ ap (λ (k : ℕ). end_around_carry 128 (c.loop-copy.total * 2 ^ k)) (sym five))
          (c.turned_right.ensures ∙ ap (rotate_right n c.loop-copy.turn) c.word_of-word.ensures.value
          ∙ ap (λ (k : ℕ). rotate_right n k (number bs)) c.loop-copy.invariant.turn
          ∙ copy_turn n i (number bs) ∙ ap (λ (k : ℕ). rotate_right k (13 * i) (number bs)) (sym five))
          c.sum_around-total.ensures;
      turn = c.next_turn-turn.ensures ∙ ap (λ (m : ℕ). (m + 13) % n) c.loop-copy.invariant.turn ∙ mod-add-mod (13 * i) n 13
          ∙ ap (λ (m : ℕ). m % n) next;
    }

pub returns : goal.returns
returns c =
    let bs : List ℕ = c.args.input.now in
    let five : length bs ≡ 5 = omega arith in
    let done : c.loop-copy.copy ≡ 16 / 1 = omega arith in
    block_fold_is bs 1 c.loop-copy.total (omega arith) (subst (λ (n : ℕ). IsGcd n 16 1) (sym five) gcd_five)
    (c.loop-copy.invariant.total ∙ ap (λ (k : ℕ). end_around_carry 128 (number (rotated_copies bs k))) done)
