-- Changes that are made one after another.
use Rattle.std.proofs.Common.{◌≡◌, ◌<◌, ◌≤◌, ◌-◌, List, [], ◌∷◌, Option, ap, arith, drop, get_or, length, map, subst, sym, take, refl}
use Rattle.std.proofs.lemmas.List.{take_all}
use Rattle.file_store.specs.World.{World}
use Rattle.principals.specs.Database.{Principals}
use Rattle.kadm_changes.specs.Changing.{AreMade}

module _ {A B : Type 0} (f : A → B) (by : Option World → B → Principals → Principals → Type 0) (first : Option World) (all : List B) (p : Principals) where
  -- what the coming changes make of the current database is what all changes make of the first one
  abbrev pub MadeFrom : List B → Principals → Type 0
  MadeFrom rest d = (new : Principals) → AreMade (by first) rest d new → AreMade (by first) all p new

  first_one : (items : List A) (other : A) → 1 ≤ length items
      → map f items ≡ f (get_or items 0 other) ∷ map f (take (length items - 1) (drop 1 items))
  first_one [] other some = absurd (omega (arith, some))
  first_one (item ∷ items) other some =
      ap (λ back. f item ∷ map f back) (sym (take_all (length (item ∷ items) - 1) items (omega arith)))

  pub made_on : (now : Option World) (items : List A) (other : A) (d e : Principals) → now ≡ first → 1 ≤ length items
      → MadeFrom (map f items) d → by now (f (get_or items 0 other)) d e
      → MadeFrom (map f (take (length items - 1) (drop 1 items))) e
  made_on now items other d e kept some from done new later =
      from new (subst (λ xs. AreMade (by first) xs d new) (sym (first_one items other some))
      (e, subst (λ world. by world (f (get_or items 0 other)) d e) kept done, later))

  none_left : (items : List A) → length items < 1 → map f items ≡ []
  none_left [] none = refl
  none_left (item ∷ items) none = absurd (omega (arith, none))

  pub made_end : (items : List A) (d : Principals) → length items < 1 → MadeFrom (map f items) d → AreMade (by first) all p d
  made_end items d none from = from d (subst (λ xs. AreMade (by first) xs d d) (sym (none_left items none)) refl)
