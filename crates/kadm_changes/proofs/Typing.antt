-- What is typed when somebody is asked for a password.
use Rattle.std.proofs.Common.{◌≡◌, ◌∙◌, ℕ, Bool, true, false, List, ◌∷◌, Option, Some, None, ap, subst, sym}
use Rattle.file_store.specs.Input.{Input, IsTerminal, IsTyped, TakesLine, typed}

-- who gives the lines that are left
still : (held : Input) (left : List (List ℕ)) (after : Option Input) (found : Bool) → after ≡ Some (record held { lines = left })
    → IsTerminal after found → found ≡ held.terminal
still held left after found is given = subst (λ input. IsTerminal input found) is given

-- a line that no terminal gives is read once
pub typed_once : (before after : Option Input) (line : List ℕ) (found : Bool) → TakesLine before line after → IsTerminal after found
    → found ≡ false → IsTyped before line
typed_once None after line found taken given is = tt
typed_once (Some held) after line found (left, lines, rest) given is =
    (left, lines ∙ ap (λ terminal. typed terminal line left) (sym is ∙ still held left after found rest given))

-- one that a terminal gives, twice
pub typed_twice : (before between after : Option Input) (line again : List ℕ) (found : Bool) → TakesLine before line between
    → IsTerminal between found → found ≡ true → TakesLine between again after → again ≡ line → IsTyped before line
typed_twice None between after line again found taken given is more same = tt
typed_twice (Some held) between after line again found (left, lines, rest) given is more same =
    let next = subst (λ input. TakesLine input again after) rest more in (
      next.0,
      lines ∙ ap (λ others. line ∷ others) (next.1 ∙ ap (λ first. first ∷ next.0) same)
          ∙ ap (λ terminal. typed terminal line next.0) (sym is ∙ still held left between found rest given),
    )
