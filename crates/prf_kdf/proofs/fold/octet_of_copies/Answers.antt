use Rattle.std.proofs.Common.{ℕ, ◌+◌, ◌-◌, ◌*◌, ◌/◌, ◌%◌, length, arith, refl}
use Rattle.prf_kdf.proofs.Turns.{octet_of_copies_is}
use Rattle.prf_kdf.proofs.fold.octet_of_copies.Goals as goal

pub returns : goal.returns
returns c =
    let n : ℕ = length c.args.input.now in
    let shift : ℕ = 13 * (c.args.at / n) % (8 * n) + 8 * (n - 1 - c.args.at % n) in
    rw (c.from.ensures, c.from-2.ensures)
    (octet_of_copies_is c.args.input.now c.args.at shift (λ i. omega (arith, c.type_inv.input i)) (omega arith) refl)
