use Rattle.std.proofs.Common.{◌≡◌, ℕ, List, length, get_or, ap, ◌∙◌, arith, bit_or, bit_xor, below_more, eq-eqb}
use Rattle.std.specs.Int.Bits.{xor_self, or_zero_l}
use Rattle.std.proofs.lemmas.Bool.{eqb-true}
use Rattle.std.proofs.lemmas.Grind.{same_number_lists}
use Rattle.enctypes.proofs.Comparing.{or-zero_left, or-zero_right, xor-zero}
use Rattle.enctypes.proofs.octets.are_same.Goals as goal

pub loop-i-preserved : goal.loop-i-preserved
loop-i-preserved c =
    let i : ℕ = c.loop-i.i in
    let before : ℕ = c.loop-i.difference in
    let a : ℕ = get_or c.args.octets.now i 0 in
    let b : ℕ = get_or c.args.others.now i 0 in
    record {
      agree = λ h. below_more (λ (k : ℕ). get_or c.args.octets.now k 0 ≡ get_or c.args.others.now k 0) i
          (c.loop-i.invariant.agree (or-zero_left before (bit_xor a b) h))
          (xor-zero a b (or-zero_right before (bit_xor a b) h));
      none = λ all.
          let low : before ≡ 0 = c.loop-i.invariant.none (λ k lt. all k (omega arith)) in
          let same : a ≡ b = all i (omega arith) in
          ap (λ (n : ℕ). bit_or n (bit_xor a b)) low ∙ or_zero_l (bit_xor a b) ∙ ap (λ (n : ℕ). bit_xor n b) same
          ∙ xor_self b;
    }

pub returns : goal.returns
returns c =
    let len : length c.args.octets.now ≡ length c.args.others.now = omega arith in (
      (λ h. same_number_lists c.args.octets.now c.args.others.now len
          (λ k lt. c.loop-i.invariant.agree (eqb-true c.loop-i.difference 0 h) k (omega arith))),
      (λ e. eq-eqb c.loop-i.difference 0 (c.loop-i.invariant.none (λ k lt. ap (λ (l : List ℕ). get_or l k 0) e))),
    )
