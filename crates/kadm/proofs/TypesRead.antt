-- The encryption types in a list of numbers, one after another.
use Rattle.std.proofs.Common.{◌≡◌, ◌<◌, ◌≤◌, ◌-◌, ◌++◌, List, [], ◌∷◌, ap, arith, append_assoc, drop, get_or, length, subst, sym, take, refl}
use Rattle.std.specs.Borrow.{Bor}
use Rattle.std.proofs.lemmas.List.{append-nil, take_all}
use Rattle.enctypes.specs.declared.etype.Etype.{Etype}
use Rattle.text_fields.specs.Etypes.{IsEtypeText}
use Rattle.kadm_changes.specs.Texts.{Text, texts}
use Rattle.kadm.specs.Types.{AreTypesIn}

first_part : (parts : List (Bor Text)) (other : Bor Text) → 1 ≤ length parts
    → texts parts ≡ (get_or parts 0 other).now ∷ texts (take (length parts - 1) (drop 1 parts))
first_part [] other some = absurd (omega (arith, some))
first_part (part ∷ parts) other some =
    ap (λ back. part.now ∷ texts back) (sym (take_all (length (part ∷ parts) - 1) parts (omega arith)))

-- one more type was read
pub types_on : (parts : List (Bor Text)) (other : Bor Text) (all more : List Etype) (etype : Etype) (goal : List Text) → 1 ≤ length parts
    → ((es : List Etype) → AreTypesIn es (texts parts) → AreTypesIn (all ++ es) goal) → IsEtypeText etype (get_or parts 0 other).now
    → more ≡ all ++ etype ∷ [] → (es : List Etype) → AreTypesIn es (texts (take (length parts - 1) (drop 1 parts))) → AreTypesIn (more ++ es) goal
types_on parts other all more etype goal some from is pushed es rest =
    subst (λ m. AreTypesIn (m ++ es) goal) (sym pushed)
    (subst (λ xs. AreTypesIn xs goal) (sym (append_assoc all (etype ∷ []) es))
    (from (etype ∷ es) (subst (AreTypesIn (etype ∷ es)) (sym (first_part parts other some)) (is, rest))))

no_parts : (parts : List (Bor Text)) → length parts < 1 → texts parts ≡ []
no_parts [] none = refl
no_parts (part ∷ parts) none = absurd (omega (arith, none))

pub types_end : (parts : List (Bor Text)) (all : List Etype) (goal : List Text) → length parts < 1
    → ((es : List Etype) → AreTypesIn es (texts parts) → AreTypesIn (all ++ es) goal) → AreTypesIn all goal
types_end parts all goal none from =
    subst (λ xs. AreTypesIn xs goal) (append-nil all) (from [] (subst (AreTypesIn []) (sym (no_parts parts none)) tt))
