-- The tokens in the path of a cache, one after another.
use Rattle.std.proofs.Common.{◌≡◌, ◌∙◌, ◌++◌, ℕ, List, [], Option, Some, None, ap, drop, subst, sym, take}
use Rattle.std.specs.Prelude.{codes}
use Rattle.std.specs.Str.Pattern.{FindsText}
use Rattle.std.proofs.lemmas.List.{append_assoc}
use Rattle.client_files.specs.CachePaths.{HasToken, IsExpanded, plain, token_text, with_token}

-- what was written, with a path of what is left, is a path of the name
abbrev pub IsAhead : ℕ → List ℕ → List ℕ → List ℕ → Type 0
IsAhead user name whole rest = (path : List ℕ) → IsExpanded user rest path → IsExpanded user name (whole ++ path)

pub ahead_first : (user : ℕ) (name whole : List ℕ) → whole ≡ [] → IsAhead user name whole name
ahead_first user name whole empty = λ path is. subst (λ w. IsExpanded user name (w ++ path)) (sym empty) is

pub ahead_next : (user : ℕ) (name whole rest token text after more : List ℕ) (i j : ℕ) → IsAhead user name whole rest
    → FindsText (codes "%{") rest (Some (i, j)) → HasToken token after (drop j rest) → token_text user token ≡ Some text
    → more ≡ whole ++ take i rest ++ text → IsAhead user name more after
ahead_next user name whole rest token text after more i j ahead finds has known pushed = λ path is.
    subst (λ whole_path. IsExpanded user name whole_path)
    (sym (append_assoc whole (take i rest ++ text) path)
    ∙ ap (λ w. w ++ path) (sym (append_assoc whole (take i rest) text)) ∙ ap (λ w. w ++ path) (sym pushed))
    (ahead (take i rest ++ text ++ path) (with_token rest token text after path i j finds has known is))

pub ahead_last : (user : ℕ) (name whole rest path : List ℕ) → IsAhead user name whole rest
    → FindsText (codes "%{") rest None → path ≡ whole ++ rest → IsExpanded user name path
ahead_last user name whole rest path ahead finds pushed =
    subst (λ p. IsExpanded user name p) (sym pushed) (ahead rest (plain rest finds))

-- what writing a path token by token needs to know
pub ruleset each_token = (ahead_first, ahead_next, ahead_last)
