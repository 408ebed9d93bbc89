-- What is found at each word of a command line, one word after another.
use Rattle.std.proofs.Common.{◌≡◌, ◌∙◌, ◌<◌, ◌≤◌, ◌-◌, ◌++◌, List, [], ◌∷◌, ap, arith, drop, get_or, length, sym, take, refl}
use Rattle.std.specs.Borrow.{Bor}
use Rattle.std.proofs.lemmas.List.{append-nil, append_assoc, take_all}
use Rattle.kadm_changes.specs.Texts.{Text, texts}
use Rattle.kadm.specs.Values.{found_at}

module _ {A : Type 0} (at : Text → List Text → List A) where
  found_first : (words : List (Bor Text)) (other : Bor Text) → 1 ≤ length words
      → found_at at (texts words) ≡ at (get_or words 0 other).now (texts (take (length words - 1) (drop 1 words)))
      ++ found_at at (texts (take (length words - 1) (drop 1 words)))
  found_first [] other some = absurd (omega (arith, some))
  found_first (word ∷ words) other some =
      ap (λ back. at word.now (texts back) ++ found_at at (texts back)) (sym (take_all (length (word ∷ words) - 1) words (omega arith)))

  -- what was added, with what is found at the coming words, is what is to be added
  pub found_on : (words : List (Bor Text)) (other : Bor Text) (all more goal : List A) → 1 ≤ length words
      → all ++ found_at at (texts words) ≡ goal
      → more ≡ all ++ at (get_or words 0 other).now (texts (take (length words - 1) (drop 1 words)))
      → more ++ found_at at (texts (take (length words - 1) (drop 1 words))) ≡ goal
  found_on words other all more goal some so_far added =
      let back = texts (take (length words - 1) (drop 1 words)) in
      ap (λ front. front ++ found_at at back) added ∙ append_assoc all (at (get_or words 0 other).now back) (found_at at back)
      ∙ ap (λ rest. all ++ rest) (sym (found_first words other some)) ∙ so_far

  none_found : (words : List (Bor Text)) → length words < 1 → found_at at (texts words) ≡ []
  none_found [] none = refl
  none_found (word ∷ words) none = absurd (omega (arith, none))

  pub found_end : (words : List (Bor Text)) (all goal : List A) → length words < 1 → all ++ found_at at (texts words) ≡ goal → all ≡ goal
  found_end words all goal none so_far =
      sym (ap (λ rest. all ++ rest) (none_found words none) ∙ append-nil all) ∙ so_far
