use Rattle.std.proofs.Common.{◌≡◌, ◌≢◌, ◌<◌, ℕ, ◌+◌, ◌-◌, ◌*◌, ◌/◌, ◌%◌, ◌^◌}
use Rattle.std.proofs.Common.{List, drop, length, get_or, refl, sym, ap, arith, ◌∙◌}
use Rattle.std.proofs.lemmas.List.{length-set, get_or-set_other}
use Rattle.prf_kdf.specs.Fold.{number, piece_of_copies}
use Rattle.prf_kdf.proofs.Numbers.{number-drop, number-lt, number_past, set-lt}
use Rattle.prf_kdf.proofs.Copies.{length-piece_of_copies, get_or-piece_of_copies}
use Rattle.prf_kdf.proofs.Sums.{sum_more}
use Rattle.prf_kdf.proofs.fold.add_piece.Goals as goal

pub loop-i-init : goal.loop-i-init
loop-i-init c =
    let n : ℕ = length c.args.total.now in
    let piece : List ℕ = piece_of_copies c.args.input.now c.args.start n in
    let none : number (drop n piece) ≡ 0 =
    number_past piece n (omega (arith, length-piece_of_copies c.args.input.now c.args.start n)) in
    record {
      len = refl;
      octets = λ j. omega (arith, c.type_inv.total j);
      bound = omega arith;
      sum = omega (arith, none);
      front = λ j h. refl;
    }

pub loop-i-preserved : goal.loop-i-preserved
loop-i-preserved c =
    let n : ℕ = length c.args.total.now in
    let i : ℕ = c.loop-i.i - 1 in
    let k : ℕ = n - c.loop-i.i in
    let total : List ℕ = c.loop-i.total in
    let piece : List ℕ = piece_of_copies c.args.input.now c.args.start n in
    let p : ℕ = c.octet_of_copies.result in
    let s : ℕ = c.from.result + c.from-in-loop-i.result + c.loop-i.carry in
    let inv = c.loop-i.invariant in
    let after : c.loop-i.i ≡ i + 1 = omega arith in
    let next : n - i ≡ k + 1 = omega arith in
    let digit : c.loop-i.carry + get_or total i 0 + p ≡ 256 * (s / 256) + s % 256 =
    omega (arith, c.from.ensures, c.from-in-loop-i.ensures) in
    let octet : get_or piece i 0 ≡ p =
    get_or-piece_of_copies c.args.input.now c.args.start n i (omega arith) ∙ sym c.octet_of_copies.ensures in
    let rest : number (drop i piece) ≡ p * 2 ^ (8 * k) + number (drop c.loop-i.i piece) =
    number-drop piece i k (omega (arith, length-piece_of_copies c.args.input.now c.args.start n))
    ∙ ap (λ m. m * 2 ^ (8 * k) + number (drop (i + 1) piece)) octet
    ∙ ap (λ m. p * 2 ^ (8 * k) + number (drop m piece)) (sym after) in
    record {
      len = length-set total i _ ∙ inv.len;
      octets = set-lt total i (s % 256) inv.octets (omega arith);
      bound = omega arith;
      sum = rw (next, rest) (sum_more total c.args.total.now i c.loop-i.i k c.loop-i.carry p (s % 256) (s / 256)
          (number (drop c.loop-i.i piece)) inv.len (omega arith) (omega arith) (inv.front i (omega arith)) inv.sum digit);
      front = λ j h. let ne : j ≢ i = omega arith in get_or-set_other total i j _ 0 ne ∙ inv.front j (omega arith);
    }

pub returns-clause-below : goal.returns-clause-below
returns-clause-below c =
    let len : length c.loop-i.total ≡ length c.args.total.now = c.loop-i.invariant.len in
    let below : number c.loop-i.total < 2 ^ (8 * length c.loop-i.total) =
    number-lt c.loop-i.total c.loop-i.invariant.octets in
    rw len at below
