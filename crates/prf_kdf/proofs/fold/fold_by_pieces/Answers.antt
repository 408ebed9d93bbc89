use Rattle.std.proofs.Common.{◌≡◌, ℕ, ◌+◌, ◌*◌, ◌/◌, ◌^◌, ◌≤◌, ◌<◌, List, take, drop, length, arith, refl, sym, ap, ◌∙◌}
use Rattle.std.proofs.Math.Pow.{pow_mono}
use Rattle.std.proofs.lemmas.Nat.{mul-le}
use Rattle.prf_kdf.specs.Fold.{number, octets_of, lcm, rotated_copies, piece_of_copies, end_around_carry}
use Rattle.prf_kdf.specs.Fold.{pieces_sum, n_fold}
use Rattle.prf_kdf.proofs.Copies.{piece_of_copies_is, number-piece_of_copies-lt}
use Rattle.prf_kdf.proofs.EndAround.{brought_round, brought_round_is, end_around_carry-more}
use Rattle.prf_kdf.proofs.Multiples.{gcd_positive, fits_lcm}
use Rattle.prf_kdf.proofs.Numbers.{number-lt, number-replicate, octets_of-number}
use Rattle.prf_kdf.proofs.Sums.{carry_fits, pieces_sum_none, pieces_sum_more}
use Rattle.prf_kdf.proofs.fold.fold_by_pieces.Goals as goal

pub nonzero_div-pieces : goal.nonzero_div-pieces
nonzero_div-pieces c = gcd_positive _ _ c.gcd.result c.requires.input c.gcd.ensures

pub loop-piece-init : goal.loop-piece-init
loop-piece-init c =
    let n : ℕ = length c.args.out.now in
    record {
      octets = λ i. omega (arith, c.type_inv.out i);
      sum = ap number (c.fill.ensures.after (λ y e. e)) ∙ number-replicate n
          ∙ sym (ap (end_around_carry (8 * n)) (pieces_sum_none n _));
    }

pub add_carry-requires-clause-fits : goal.add_carry-requires-clause-fits
add_carry-requires-clause-fits c =
    let out : List ℕ = c.loop-piece.out in
    let sum = c.add_piece-carry.ensures in
    let len : length c.add_piece-carry.new.total ≡ length out = omega arith in
    rw len (carry_fits c.add_piece-carry.result (2 ^ (8 * length out)) (number c.add_piece-carry.new.total) (number out) _
    sum.bound sum.sum (number-lt out c.loop-piece.invariant.octets)
    (number-piece_of_copies-lt c.args.input.now (length out * c.loop-piece.piece) (length out)) sum.below)

pub loop-piece-preserved : goal.loop-piece-preserved
loop-piece-preserved c =
    let bs : List ℕ = c.args.input.now in
    let n : ℕ = length c.args.out.now in
    let k : ℕ = c.loop-piece.piece in
    let copies : ℕ = lcm (length bs) n / length bs in
    let sum = c.add_piece-carry.ensures in
    let len : length c.loop-piece.out ≡ n = omega arith in
    let fill_len : length c.fill.new.self ≡ n = omega arith in
    let fits = fits_lcm (length bs) n c.gcd.result c.requires.input c.requires.out (rw fill_len at c.gcd.ensures) in
    let inside : n * k + n ≤ length bs * copies =
    omega (
      arith,
      ap (λ m. length bs * m) fits.copies,
      fits.all,
      mul-le n (k + 1) n (length bs / c.gcd.result) (omega arith) (omega arith),
    ) in
    let piece : take n (drop (n * k) (rotated_copies bs copies)) ≡ piece_of_copies bs (n * k) n =
    piece_of_copies_is bs copies (n * k) n inside in
    let p : ℕ = number (piece_of_copies bs (n * k) n) in
    let before : ℕ = pieces_sum n (rotated_copies bs copies) k in
    let some : 2 ≤ 2 ^ (8 * n) = pow_mono {i = 1} {j = 8 * n} (omega arith) in
    let small : p < 2 ^ (8 * n) = number-piece_of_copies-lt bs (n * k) n in
    let more : end_around_carry (8 * n) (before + p) ≡ brought_round (8 * n) (number c.loop-piece.out + p) =
    end_around_carry-more (8 * n) before p some small ∙ rw (← c.loop-piece.invariant.sum) refl in
    let round = brought_round_is (8 * n) c.add_piece-carry.result (number c.add_piece-carry.new.total) _
    (rw len at sum.sum) (rw len at sum.below) in
    record {
      octets = λ i. omega (arith, c.type_inv.out i);
      sum = c.add_carry.ensures ∙ sym round
          ∙ rw (pieces_sum_more n (rotated_copies bs copies) k, piece) (sym more);
    }

pub returns : goal.returns
unfolding n_fold
returns c =
    let bs : List ℕ = c.args.input.now in
    let out : List ℕ = c.loop-piece.out in
    let n : ℕ = length c.args.out.now in
    let len : length out ≡ n = omega arith in
    let fill_len : length c.fill.new.self ≡ n = omega arith in
    let fits = fits_lcm (length bs) n c.gcd.result c.requires.input c.requires.out (rw fill_len at c.gcd.ensures) in
    let last : c.loop-piece.piece ≡ lcm (length bs) n / n = omega (arith, fits.pieces) in
    let copies : List ℕ = rotated_copies bs (lcm (length bs) n / length bs) in
    let total : number out ≡ end_around_carry (8 * n) (pieces_sum n copies (lcm (length bs) n / n)) =
    c.loop-piece.invariant.sum ∙ ap (λ k. end_around_carry (8 * n) (pieces_sum n copies k)) last in
    sym (ap (octets_of n) (sym total) ∙ ap (λ m. octets_of m (number out)) (sym len)
    ∙ octets_of-number out c.loop-piece.invariant.octets)
