-- Principals that a database has, one name after another.
use Rattle.std.proofs.Common.{◌≡◌, ◌∙◌, ℕ, ◌+◌, ◌<◌, ◌≤◌, ◌++◌, All, List, [], ◌∷◌, ap, get_or, length, subst, sym, take}
use Rattle.std.specs.Borrow.{Bor}
use Rattle.std.proofs.lemmas.List.{map-append, take_all, take_more}
use Rattle.std.proofs.lemmas.List.Elements.{All-push}
use Rattle.principals.specs.Database.{Principals}
use Rattle.kadm_changes.specs.Texts.{Text, texts}
use Rattle.kadm.specs.Printed.{HasRow}

pub rows_on : (p : Principals) (names : List (Bor Text)) (i j : ℕ) (other : Bor Text) → j ≡ i + 1 → i < length names
    → All (HasRow p) (texts (take i names)) → HasRow p (get_or names i other).now → All (HasRow p) (texts (take j names))
rows_on p names i j other next lt so_far has =
    let more : take j names ≡ take i names ++ get_or names i other ∷ [] = ap (λ k. take k names) next ∙ take_more names i other lt in
    let split : texts (take j names) ≡ texts (take i names) ++ (get_or names i other).now ∷ [] =
    ap texts more ∙ map-append (λ text. text.now) (take i names) (get_or names i other ∷ []) in
    subst (All (HasRow p)) (sym split) (All-push (HasRow p) (texts (take i names)) (get_or names i other).now so_far has)

pub rows_end : (p : Principals) (names : List (Bor Text)) (i : ℕ) → length names ≤ i → All (HasRow p) (texts (take i names)) → All (HasRow p) (texts names)
rows_end p names i le has = subst (λ ns. All (HasRow p) (texts ns)) (take_all i names le) has
