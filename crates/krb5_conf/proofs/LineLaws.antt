-- The remaining lines.
use Rattle.std.proofs.Common.{◌≡◌, ◌+◌, ◌<◌, ◌++◌, ◌∷◌, ℕ, suc, List, length, drop, map, get_or, ap, ◌∙◌, sym, arith, append_assoc}
use Rattle.std.proofs.Math.Seq.{drop-cons}
use Rattle.std.proofs.lemmas.List.{get_or-map, length-map}
use Rattle.std.specs.Option.{option_to_list}
use Rattle.krb5_conf.specs.Line.{line_said}
use Rattle.krb5_conf.specs.LinePlace.{LinePlace, behind}
use Rattle.krb5_conf.specs.Values.{value_by, values_from}

-- the next line, and those after it
left : {A : Type 0} (f : A → List ℕ) (xs : List A) (i : ℕ) (d : A) → i < length xs
    → drop i (map f xs) ≡ f (get_or xs i d) ∷ drop (i + 1) (map f xs)
left f xs i d lt =
    let k : suc i ≡ i + 1 = omega arith in
    drop-cons (map f xs) i (f d) (omega (arith, length-map xs f))
    ∙ ap (λ x. x ∷ drop (suc i) (map f xs)) (get_or-map f xs i d (f d) lt)
    ∙ ap (λ n. f (get_or xs i d) ∷ drop n (map f xs)) k

-- the values found before, and those in the next line and the lines after it
pub stepped : {A : Type 0} (f : A → List ℕ) (xs : List A) (i : ℕ) (d : A) (wanted : LinePlace) (tag : List ℕ) (p q : LinePlace) (old new all : List (List ℕ))
    → i < length xs
    → new ≡ old ++ option_to_list (value_by wanted tag p (line_said (f (get_or xs i d))))
    → q ≡ behind p (line_said (f (get_or xs i d)))
    → old ++ values_from wanted tag p (drop i (map f xs)) ≡ all
    → new ++ values_from wanted tag q (drop (i + 1) (map f xs)) ≡ all
stepped f xs i d wanted tag p q old new all lt found moved so_far =
    let line : List ℕ = f (get_or xs i d) in
    let rest : List (List ℕ) = drop (i + 1) (map f xs) in
    ap (λ l. l ++ values_from wanted tag q rest) found
    ∙ append_assoc old (option_to_list (value_by wanted tag p (line_said line))) (values_from wanted tag q rest)
    ∙ ap (λ r. old ++ (option_to_list (value_by wanted tag p (line_said line)) ++ values_from wanted tag r rest)) moved
    ∙ ap (λ l. old ++ l) (sym (ap (λ l. values_from wanted tag p l) (left f xs i d lt)))
    ∙ so_far
