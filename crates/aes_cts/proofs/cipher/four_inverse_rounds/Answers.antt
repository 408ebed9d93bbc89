use Rattle.std.proofs.Common.{◌≡◌, ℕ, ◌+◌, ◌-◌, ◌*◌, List, ap, ◌∙◌, arith}
use Rattle.aes_cts.specs.Cipher.{equivalent_rounds}
use Rattle.aes_cts.specs.Words.{octets}
use Rattle.aes_cts.proofs.RoundSteps.{inverse_step}
use Rattle.aes_cts.proofs.cipher.four_inverse_rounds.Goals as goal

pub returns : goal.returns
returns g c s before =
    let w : List ℕ = c.args.schedule.now in
    let nr : ℕ = c.args.round_count in
    let n : ℕ = g.row.DONE in
    let end : ℕ = 4 * (nr - n) in
    let one : octets c.inverse_round.new.state ≡ equivalent_rounds nr (octets w) s (n + 1) =
    inverse_step nr w s (octets c.args.state.now) _ n (end - 4) end (omega arith) (omega arith) before c.inverse_round.ensures in
    let two : octets c.inverse_round-2.new.state ≡ equivalent_rounds nr (octets w) s (n + 1 + 1) =
    inverse_step nr w s (octets c.inverse_round.new.state) _ (n + 1) (end - 8) (end - 4) (omega arith) (omega arith) one c.inverse_round-2.ensures in
    let three : octets c.inverse_round-3.new.state ≡ equivalent_rounds nr (octets w) s (n + 1 + 1 + 1) =
    inverse_step nr w s (octets c.inverse_round-2.new.state) _ (n + 1 + 1) (end - 12) (end - 8) (omega arith) (omega arith) two c.inverse_round-3.ensures in
    let four : octets c.inverse_round-4.new.state ≡ equivalent_rounds nr (octets w) s (n + 1 + 1 + 1 + 1) =
    inverse_step nr w s (octets c.inverse_round-3.new.state) _ (n + 1 + 1 + 1) (end - 16) (end - 12) (omega arith) (omega arith) three c.inverse_round-4.ensures in
    let count : n + 1 + 1 + 1 + 1 ≡ n + 4 = omega arith in
    four ∙ ap (equivalent_rounds nr (octets w) s) count
