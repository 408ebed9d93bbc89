use Rattle.std.proofs.Common.{◌≡◌, ℕ, ◌+◌, ◌*◌, List, ap, ◌∙◌, arith}
use Rattle.aes_cts.specs.Cipher.{rounds}
use Rattle.aes_cts.specs.Words.{octets}
use Rattle.aes_cts.proofs.RoundSteps.{round_step}
use Rattle.aes_cts.proofs.cipher.four_rounds.Goals as goal

pub returns : goal.returns
returns g c s before =
    let w : List ℕ = c.args.schedule.now in
    let n : ℕ = g.row.DONE in
    let one : octets c.round.new.state ≡ rounds (octets w) s (n + 1) =
    round_step w s (octets c.args.state.now) _ n (4 * n + 4) (4 * n + 8) (omega arith) (omega arith) before c.round.ensures in
    let two : octets c.round-2.new.state ≡ rounds (octets w) s (n + 1 + 1) =
    round_step w s (octets c.round.new.state) _ (n + 1) (4 * n + 8) (4 * n + 12) (omega arith) (omega arith) one c.round-2.ensures in
    let three : octets c.round-3.new.state ≡ rounds (octets w) s (n + 1 + 1 + 1) =
    round_step w s (octets c.round-2.new.state) _ (n + 1 + 1) (4 * n + 12) (4 * n + 16) (omega arith) (omega arith) two c.round-3.ensures in
    let four : octets c.round-4.new.state ≡ rounds (octets w) s (n + 1 + 1 + 1 + 1) =
    round_step w s (octets c.round-3.new.state) _ (n + 1 + 1 + 1) (4 * n + 16) (4 * n + 20) (omega arith) (omega arith) three c.round-4.ensures in
    let count : n + 1 + 1 + 1 + 1 ≡ n + 4 = omega arith in
    four ∙ ap (rounds (octets w) s) count
