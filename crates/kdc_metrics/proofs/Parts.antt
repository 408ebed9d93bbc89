-- The samples of all kinds are those of their parts.
use Rattle.std.proofs.Common.{◌≡◌, ◌++◌, List, sym, ap, ◌∙◌, append_assoc}
use Rattle.std.specs.Prelude.{map}
use Rattle.std.specs.List.{flat_map}
use Rattle.std.proofs.lemmas.Grind.{flat_map-append}
use Rattle.std.proofs.lemmas.List.Folds.{flat_map-map}

module _ {X R S T A : Type 0} (f : X → List A) (front middle : List X) (g : R → X) (rs : List R) (h : S → X) (own : List S) (k : T → S) (aps : List T) where
  first : flat_map f (front ++ map g rs ++ middle) ≡ flat_map f front ++ flat_map (λ r. f (g r)) rs ++ flat_map f middle
  first = flat_map-append f (front ++ map g rs) middle ∙ ap (λ t. t ++ flat_map f middle)
      (flat_map-append f front (map g rs) ∙ ap (λ t. flat_map f front ++ t) (flat_map-map f g rs))

  last : flat_map f (map h (own ++ map k aps)) ≡ flat_map (λ s. f (h s)) own ++ flat_map (λ t. f (h (k t))) aps
  last = flat_map-map f h (own ++ map k aps) ∙ (flat_map-append (λ s. f (h s)) own (map k aps)
      ∙ ap (λ t. flat_map (λ s. f (h s)) own ++ t) (flat_map-map (λ s. f (h s)) k aps))

  pub parts : flat_map f (front ++ map g rs ++ middle ++ map h (own ++ map k aps))
      ≡ flat_map f front ++ flat_map (λ r. f (g r)) rs ++ flat_map f middle ++ flat_map (λ s. f (h s)) own ++ flat_map (λ t. f (h (k t))) aps
  parts = flat_map-append f (front ++ map g rs ++ middle) (map h (own ++ map k aps)) ∙ ((λ i. first i ++ last i)
      ∙ sym (append_assoc (flat_map f front ++ flat_map (λ r. f (g r)) rs ++ flat_map f middle) (flat_map (λ s. f (h s)) own) (flat_map (λ t. f (h (k t))) aps)))
