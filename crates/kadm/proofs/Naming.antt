-- The names among the words of a command line, one word after another.
use Rattle.std.proofs.Common.{◌≡◌, ◌∙◌, ◌<◌, ◌≤◌, ◌-◌, ◌++◌, List, [], ◌∷◌, Bool, ap, arith, drop, get_or, length, sym, take, refl}
use Rattle.std.specs.Borrow.{Bor}
use Rattle.std.proofs.lemmas.List.{append-nil, append_assoc, take_all}
use Rattle.kadm_changes.specs.Texts.{Text, texts}
use Rattle.kadm.specs.Values.{is_value_next}
use Rattle.kadm.specs.Words.{named, spelled}

named_first : (words : List (Bor Text)) (other : Bor Text) (v : Bool) → 1 ≤ length words
    → named v (texts words) ≡ spelled v (get_or words 0 other).now
    ++ named (is_value_next v (get_or words 0 other).now) (texts (take (length words - 1) (drop 1 words)))
named_first [] other v some = absurd (omega (arith, some))
named_first (word ∷ words) other v some =
    ap (λ back. spelled v word.now ++ named (is_value_next v word.now) (texts back)) (sym (take_all (length (word ∷ words) - 1) words (omega arith)))

-- what was added, with the names of the coming words, is what is to be added
pub named_on : (words : List (Bor Text)) (other : Bor Text) (v : Bool) (all more goal : List Text) → 1 ≤ length words
    → all ++ named v (texts words) ≡ goal → more ≡ all ++ spelled v (get_or words 0 other).now
    → more ++ named (is_value_next v (get_or words 0 other).now) (texts (take (length words - 1) (drop 1 words))) ≡ goal
named_on words other v all more goal some so_far added =
    let word = (get_or words 0 other).now in
    let back = named (is_value_next v word) (texts (take (length words - 1) (drop 1 words))) in
    ap (λ front. front ++ back) added ∙ append_assoc all (spelled v word) back
    ∙ ap (λ rest. all ++ rest) (sym (named_first words other v some)) ∙ so_far

no_names : (words : List (Bor Text)) (v : Bool) → length words < 1 → named v (texts words) ≡ []
no_names [] v none = refl
no_names (word ∷ words) v none = absurd (omega (arith, none))

pub named_end : (words : List (Bor Text)) (v : Bool) (all goal : List Text) → length words < 1 → all ++ named v (texts words) ≡ goal → all ≡ goal
named_end words v all goal none so_far =
    sym (ap (λ rest. all ++ rest) (no_names words v none) ∙ append-nil all) ∙ so_far
