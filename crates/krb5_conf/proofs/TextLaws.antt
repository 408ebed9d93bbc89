-- The texts of KDCs.
use Rattle.std.proofs.Common.{◌≡◌, ◌+◌, ◌<◌, ◌++◌, ◌∷◌, [], ℕ, List, length, take, map, get_or, ap, ◌∙◌, sym, arith}
use Rattle.std.proofs.lemmas.List.{take_more, get_or-map, length-map}
use Rattle.std.proofs.lemmas.List.Elements.{filter-append}
use Rattle.krb5_conf.specs.Kdc.{is_kdc_text, kdc_texts}

taken : {A : Type 0} (f : A → List ℕ) (xs : List A) (i : ℕ) (d : A) → i < length xs
    → take (i + 1) (map f xs) ≡ take i (map f xs) ++ f (get_or xs i d) ∷ []
taken f xs i d lt =
    take_more (map f xs) i (f d) (omega (arith, length-map xs f))
    ∙ ap (λ y. take i (map f xs) ++ y ∷ []) (get_or-map f xs i d (f d) lt)

-- the next text, if it is that of a KDC
pub one_text : {A : Type 0} (f : A → List ℕ) (xs : List A) (i : ℕ) (d : A) (old new : List (List ℕ))
    → i < length xs → new ≡ old ++ kdc_texts (f (get_or xs i d) ∷ []) → old ≡ kdc_texts (take i (map f xs))
    → new ≡ kdc_texts (take (i + 1) (map f xs))
one_text f xs i d old new lt is so_far =
    is ∙ ap (λ l. l ++ kdc_texts (f (get_or xs i d) ∷ [])) so_far
    ∙ sym (ap kdc_texts (taken f xs i d lt) ∙ filter-append is_kdc_text (take i (map f xs)) (f (get_or xs i d) ∷ []))
