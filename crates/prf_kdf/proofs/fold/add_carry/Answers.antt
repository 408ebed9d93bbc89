use Rattle.std.proofs.Common.{◌≡◌, ◌≢◌, ℕ, ◌+◌, ◌-◌, ◌*◌, ◌/◌, ◌%◌, List, length, get_or, arith, ◌∙◌}
use Rattle.std.proofs.lemmas.List.{length-set, get_or-set_other}
use Rattle.prf_kdf.proofs.Sums.{sum_more}
use Rattle.prf_kdf.proofs.fold.add_carry.Goals as goal

pub loop-i-preserved : goal.loop-i-preserved
loop-i-preserved c =
    let n : ℕ = length c.args.total.now in
    let i : ℕ = c.loop-i.i - 1 in
    let k : ℕ = n - c.loop-i.i in
    let total : List ℕ = c.loop-i.total in
    let s : ℕ = c.from.result + c.loop-i.carry in
    let inv = c.loop-i.invariant in
    let next : n - i ≡ k + 1 = omega arith in
    let digit : c.loop-i.carry + get_or total i 0 + 0 ≡ 256 * (s / 256) + s % 256 = omega (arith, c.from.ensures) in
    let more = sum_more total c.args.total.now i c.loop-i.i k c.loop-i.carry 0 (s % 256) (s / 256) c.args.carry inv.len
    (omega arith) (omega arith) (inv.front i (omega arith)) inv.sum digit in
    record {
      len = length-set total i _ ∙ inv.len;
      bound = omega arith;
      sum = rw next (omega (arith, more));
      front = λ j h. let ne : j ≢ i = omega arith in get_or-set_other total i j _ 0 ne ∙ inv.front j (omega arith);
    }
