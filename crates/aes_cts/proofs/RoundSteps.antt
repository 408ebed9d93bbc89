-- One round on words, compared with the definition.
use Rattle.std.proofs.Common.{◌≡◌, ℕ, ◌+◌, ◌-◌, ◌*◌, List, take, drop, sym, ap, ◌∙◌}
use Rattle.aes_cts.specs.State.{add_round_key, mix_columns, shift_rows, sub_bytes}
use Rattle.aes_cts.specs.State.{inverse_mix_columns, inverse_shift_rows, inverse_sub_bytes}
use Rattle.aes_cts.specs.Cipher.{rounds, equivalent_rounds}
use Rattle.aes_cts.specs.Words.{octets}
use Rattle.aes_cts.proofs.Rounds.{rounds_more}
use Rattle.aes_cts.proofs.Equivalent.{equivalent_more}
use Rattle.aes_cts.proofs.WordLaws.{key_words_is}

-- the round after n, with the words from an index
pub round_step : (w s old new : List ℕ) (n at end : ℕ) → at ≡ 4 * (n + 1) → end ≡ at + 4 → old ≡ rounds (octets w) s n
    → new ≡ add_round_key (mix_columns (shift_rows (sub_bytes old))) (octets (take (end - at) (drop at w)))
    → new ≡ rounds (octets w) s (n + 1)
round_step w s old new n at end here four before is =
    is
    ∙ ap (λ (t : List ℕ). add_round_key (mix_columns (shift_rows (sub_bytes t))) (octets (take (end - at) (drop at w)))) before
    ∙ ap (add_round_key (mix_columns (shift_rows (sub_bytes (rounds (octets w) s n))))) (key_words_is w at end (n + 1) here four)
    ∙ sym (rounds_more (octets w) s n)

-- the same for the inverse, from the last of nr rounds downwards
pub inverse_step : (nr : ℕ) (w s old new : List ℕ) (n at end : ℕ) → at ≡ 4 * (nr - (n + 1)) → end ≡ at + 4
    → old ≡ equivalent_rounds nr (octets w) s n
    → new ≡ add_round_key (inverse_mix_columns (inverse_sub_bytes (inverse_shift_rows old))) (octets (take (end - at) (drop at w)))
    → new ≡ equivalent_rounds nr (octets w) s (n + 1)
inverse_step nr w s old new n at end here four before is =
    is
    ∙ ap (λ (t : List ℕ). add_round_key (inverse_mix_columns (inverse_sub_bytes (inverse_shift_rows t))) (octets (take (end - at) (drop at w)))) before
    ∙ ap (add_round_key (inverse_mix_columns (inverse_sub_bytes (inverse_shift_rows (equivalent_rounds nr (octets w) s n)))))
    (key_words_is w at end (nr - (n + 1)) here four)
    ∙ sym (equivalent_more nr (octets w) s n)
