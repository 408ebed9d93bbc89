use Rattle.std.proofs.Common.{◌≡◌, ℕ, ◌+◌, ◌-◌, ◌*◌, List, take, drop, refl, sym, ap, ◌∙◌, arith}
use Rattle.aes_cts.specs.State.{add_round_key, shift_rows, sub_bytes}
use Rattle.aes_cts.specs.Cipher.{rounds}
use Rattle.aes_cts.specs.Words.{octets}
use Rattle.aes_cts.proofs.Rounds.{rounds_none, cipher_is}
use Rattle.aes_cts.proofs.RoundSteps.{round_step}
use Rattle.aes_cts.proofs.WordLaws.{octets-take, key_words_is}
use Rattle.aes_cts.proofs.cipher.cipher.Goals as goal
use Rattle.aes_cts.proofs.cipher.cipher.Goals.{then-round_count-gt10, else-round_count-gt10}

pub returns : goal.returns
returns c =
    let w : List ℕ = c.args.schedule.now in
    let s : List ℕ = octets c.args.state.now in
    let nr : ℕ = c.args.round_count in
    let none : octets c.add_round_key.new.state ≡ rounds (octets w) s 0 =
    c.add_round_key.ensures ∙ ap (add_round_key s) (sym (octets-take 4 w)) ∙ sym (rounds_none (octets w) s) in
    let one : octets c.round.new.state ≡ rounds (octets w) s 1 =
    round_step w s (octets c.add_round_key.new.state) _ 0 4 8 refl refl none c.round.ensures in
    let nine : octets c.four_rounds-2.new.state ≡ rounds (octets w) s 9 =
    c.four_rounds-2.ensures s (c.four_rounds.ensures s one) in
    let all : octets c.if-round_count-gt10.state ≡ rounds (octets w) s (nr - 1) =
    elim c.if-round_count-gt10.branch [
      | then-round_count-gt10 b ↦
          let count : 13 ≡ nr - 1 = omega (arith, b.if-round_count-gt10.true) in
          ap octets b.state-is ∙ b.four_rounds-then-round_count-gt10.ensures s nine ∙ ap (rounds (octets w) s) count
      | else-round_count-gt10 b ↦
          let count : 9 ≡ nr - 1 = omega (arith, b.if-round_count-gt10.false) in
          ap octets b.state-is ∙ nine ∙ ap (rounds (octets w) s) count
    ] in
    c.last_round.ensures
    ∙ ap (λ (t : List ℕ). add_round_key (shift_rows (sub_bytes t))
    (octets (take (4 * nr + 4 - 4 * nr) (drop (4 * nr) w)))) all
    ∙ ap (add_round_key (shift_rows (sub_bytes (rounds (octets w) s (nr - 1)))))
    (key_words_is w (4 * nr) (4 * nr + 4) nr refl refl)
    ∙ sym (cipher_is nr (octets w) s)
