use Rattle.std.proofs.Common.{◌≡◌, ℕ, ◌+◌, ◌-◌, ◌*◌, List, take, refl, sym, ap, ◌∙◌, arith}
use Rattle.aes_cts.specs.State.{add_round_key, inverse_shift_rows, inverse_sub_bytes}
use Rattle.aes_cts.specs.Cipher.{equivalent_rounds}
use Rattle.aes_cts.specs.Words.{octets}
use Rattle.aes_cts.proofs.Equivalent.{equivalent_none, equivalent_is}
use Rattle.aes_cts.proofs.RoundSteps.{inverse_step}
use Rattle.aes_cts.proofs.WordLaws.{octets-take, key_words_is}
use Rattle.aes_cts.proofs.cipher.inverse_cipher.Goals as goal
use Rattle.aes_cts.proofs.cipher.inverse_cipher.Goals.{then-round_count-gt10, else-round_count-gt10}

pub returns : goal.returns
returns c =
    let w : List ℕ = c.args.schedule.now in
    let s : List ℕ = octets c.args.state.now in
    let nr : ℕ = c.args.round_count in
    let none : octets c.add_round_key.new.state ≡ equivalent_rounds nr (octets w) s 0 =
    c.add_round_key.ensures ∙ ap (add_round_key s) (key_words_is w (4 * nr) (4 * nr + 4) nr refl refl)
    ∙ sym (equivalent_none nr (octets w) s) in
    let one : octets c.inverse_round.new.state ≡ equivalent_rounds nr (octets w) s 1 =
    inverse_step nr w s (octets c.add_round_key.new.state) _ 0 (4 * nr - 4) (4 * nr) (omega arith) (omega arith) none
    c.inverse_round.ensures in
    let nine : octets c.four_inverse_rounds-2.new.state ≡ equivalent_rounds nr (octets w) s 9 =
    c.four_inverse_rounds-2.ensures s (c.four_inverse_rounds.ensures s one) in
    let all : octets c.if-round_count-gt10.state ≡ equivalent_rounds nr (octets w) s (nr - 1) =
    elim c.if-round_count-gt10.branch [
      | then-round_count-gt10 b ↦
          let count : 13 ≡ nr - 1 = omega (arith, b.if-round_count-gt10.true) in
          ap octets b.state-is ∙ b.four_inverse_rounds-then-round_count-gt10.ensures s nine
          ∙ ap (equivalent_rounds nr (octets w) s) count
      | else-round_count-gt10 b ↦
          let count : 9 ≡ nr - 1 = omega (arith, b.if-round_count-gt10.false) in
          ap octets b.state-is ∙ nine ∙ ap (equivalent_rounds nr (octets w) s) count
    ] in
    c.last_inverse_round.ensures
    ∙ ap (λ (t : List ℕ). add_round_key (inverse_sub_bytes (inverse_shift_rows t)) (octets (take 4 w))) all
    ∙ ap (add_round_key (inverse_sub_bytes (inverse_shift_rows (equivalent_rounds nr (octets w) s (nr - 1)))))
    (sym (octets-take 4 w))
    ∙ sym (equivalent_is nr (octets w) s)
