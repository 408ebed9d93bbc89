-- Taking a value out of a map, changing it and putting it back; and storing one that was not there.
use Rattle.std.proofs.Common.{◌≡◌, true, false, Result, Ok, Err, OnOk, OnErr, Some, sym, ap, ◌∙◌}
use Rattle.std.specs.FinMap as map
use Rattle.std.specs.Option.{unwrap_or}
use Rattle.krb_fields.specs.Name.{Components, name_cmp, name_total, name_exact}
use Rattle.rule_lists.proofs.Exchanges.{taken_is, absent_is, still_there, put_back, put_back_same}

-- stores f of a name's value; d is the value of a name that has none
module _ {V : Type 0} (m : map.FinMap name_cmp V) (name : Components) (f : V → V) (d : V) where
  abbrev pub changed : map.FinMap name_cmp V
  changed = map.insert m name (f (unwrap_or (map.get m name) d))

  module _ (placed old new : V) (out back : map.FinMap name_cmp V) (there : map.get m name ≡ Some old) (left : out ≡ map.insert m name placed) where
    pub is_there : map.contains_key out name ≡ true
    is_there = still_there name_cmp name_total name_exact m out name placed left

    pub stored_ok : {A B : Type 0} (r : Result A B) → OnOk r (new ≡ f old) → back ≡ map.insert out name new → OnOk r (back ≡ changed)
    stored_ok (Ok x) made given =
        put_back name_cmp name_total name_exact m out back name placed new left given
        ∙ ap (map.insert m name) (made ∙ ap f (sym (taken_is name_cmp name_total name_exact m name old d there)))
    stored_ok (Err x) made given = tt

    pub stored_err : {A B : Type 0} (r : Result A B) → OnErr r (new ≡ old) → back ≡ map.insert out name new → OnErr r (back ≡ m)
    stored_err (Ok x) same given = tt
    stored_err (Err x) same given = put_back_same name_cmp name_total name_exact m out back name placed old there left (given ∙ ap (map.insert out name) same)

  -- the same if the name had no value: nothing was taken out, and the new value is f of d
  pub stored_first : {A B : Type 0} (key : Components) (old new : V) (left put : map.FinMap name_cmp V) (r : Result A B)
      → map.contains_key m name ≡ false → left ≡ m → old ≡ d → key ≡ name → new ≡ f old → OnOk r (put ≡ map.insert left key new) → OnOk r (put ≡ changed)
  stored_first key old new left put (Ok x) absent same is_d is_name made done =
      let value : new ≡ f (unwrap_or (map.get m name) d) = made ∙ ap f (is_d ∙ sym (absent_is name_cmp name_total name_exact m name d absent)) in
      done ∙ (λ i. map.insert (same i) (is_name i) (value i))
  stored_first key old new left put (Err x) absent same is_d is_name made done = tt
