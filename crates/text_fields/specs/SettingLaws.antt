-- A field is found by its name, and setting all fields in order makes a policy.
use Rattle.std.proofs.Common.{◌≡◌, ℕ, zero, suc, ◌+◌, List, [], ◌∷◌, ◌++◌, length, map, take, set, refl, sym, ap, ◌∙◌, Some}
use Rattle.std.proofs.Common.{append_assoc, append-nil, arith}
use Rattle.std.specs.List.{fold}
use Rattle.std.proofs.lemmas.List.{take_all, length-map, length-set}
use Rattle.std.proofs.lemmas.Grind.{take-set_at}
use Rattle.principal_rows.specs.declared.policy.Policy.{Policy}
use Rattle.text_fields.specs.declared.settings.FlagField.{FlagField}
use Rattle.text_fields.specs.declared.settings.LifeField.{LifeField}
use Rattle.text_fields.specs.declared.settings.Setting.{Setting}
use Rattle.text_fields.specs.declared.settings.TimeField.{TimeField}
use Rattle.text_fields.specs.Settings.{settings_of, place, with_setting, with_settings}
use Rattle.text_fields.specs.Settings.{field_named, flag_name, flag_of, life_name, life_of, time_name, time_of}

pub flag_found : (field : FlagField) → flag_of (flag_name field) ≡ Some field
unfolding field_named
flag_found field = grind arith

pub life_found : (field : LifeField) → life_of (life_name field) ≡ Some field
unfolding field_named
life_found field = grind arith

pub time_found : (field : TimeField) → time_of (time_name field) ≡ Some field
unfolding field_named
time_found field = grind arith

-- setting one field replaces its value and leaves all others unchanged
placed : (s : Setting) (p : Policy) → settings_of (with_setting s p) ≡ set (settings_of p) (place s) s
placed s p = grind arith

abbrev put_all : List Setting → List Setting → List Setting
put_all settings all = fold (λ l s. set l (place s) s) all settings

all_placed : (settings : List Setting) (p : Policy)
    → settings_of (with_settings settings p) ≡ put_all settings (settings_of p)
all_placed [] p = refl
all_placed (s ∷ ss) p = all_placed ss (with_setting s p) ∙ ap (put_all ss) (placed s p)

-- this many numbers, from n on
abbrev upwards : ℕ → ℕ → List ℕ
upwards n zero = []
upwards n (suc m) = n ∷ upwards (suc n) m

in_order : (settings all : List Setting) (n : ℕ) → length all ≡ n + length settings
    → map place settings ≡ upwards n (length settings) → put_all settings all ≡ take n all ++ settings
in_order [] all n long are = sym (append-nil (take n all) ∙ take_all n all (omega (arith, long)))
in_order (s ∷ ss) all n long are =
    let here : place s ≡ n = cc in
    let rest : map place ss ≡ upwards (suc n) (length ss) = cc in
    in_order ss (set all (place s) s) (suc n) (omega (arith, long, length-set all (place s) s)) rest
    ∙ ap (λ l. l ++ ss) (take-set_at all (place s) (suc n) s (omega (arith, here)) (omega (arith, here, long)))
    ∙ append_assoc (take (place s) all) (s ∷ []) ss
    ∙ ap (λ m. take m all ++ s ∷ ss) here

-- setting every field, in the order of their names, makes the policy with these values
pub made : (settings : List Setting) (p : Policy) → map place settings ≡ map place (settings_of p)
    → settings_of (with_settings settings p) ≡ settings
made settings p are =
    let many : length settings ≡ length (settings_of p) = sym (length-map settings place) ∙ ap length are in
    all_placed settings p
    ∙ in_order settings (settings_of p) 0 (omega (arith, many)) (are ∙ ap (upwards 0) (sym many))
