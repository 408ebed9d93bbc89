use Rattle.std.proofs.Common.{◌≡◌, ℕ, ◌*◌, ◌/◌, List, take, length, ap, subst, ◌∙◌, arith}
use Rattle.aes_cts.specs.KeyExpansion.{IsSchedule}
use Rattle.aes_cts.specs.Words.{octets}
use Rattle.aes_cts.proofs.Keys.{view_is, is_schedule}
use Rattle.aes_cts.proofs.key.AesKey.of_words.Goals as goal

pub invariant_of-result : goal.invariant_of-result
invariant_of-result g c =
    let key : List ℕ = c.args.octets.now in
    let words : length key / 4 ≡ g.row.N = omega arith in
    subst (λ (n : ℕ). IsSchedule (octets c.expand.result) n) words
    (is_schedule (octets c.expand.result) key (omega arith) (omega arith) (omega arith)
    (record { at = λ i. omega (arith, c.type_inv.octets i) }) c.expand.ensures)

pub returns : goal.returns
returns g c =
    let key : List ℕ = c.args.octets.now in
    let words : g.row.N ≡ length key / 4 = omega arith in
    ap (λ (n : ℕ). take (4 * n) (octets c.expand.result)) words
    ∙ view_is (octets c.expand.result) key (omega arith) (omega arith) c.expand.ensures
