-- Changes of principals without new keys, in the order in which they are asked for.
use Rattle.std.specs.Prelude.{◌≡◌, List, [], ◌∷◌, Option}
use Rattle.file_store.specs.World.{World}
use Rattle.krb_fields.specs.Name.{Components}
use Rattle.krb_fields.specs.NameText.{IsNameText}
use Rattle.principals.specs.Database.{Principals}
use Rattle.principals.specs.declared.change.RowChange.TheVariants as row_changes
use Rattle.kadm_changes.specs.Asking.{Asked}
use Rattle.kadm_changes.specs.Granting.{IsOlderDropped, IsPolicySet, Makes}
use Rattle.kadm_changes.specs.Texts.{Text}
use Rattle.kadm_changes.specs.declared.changes.ChangeArgs.{ChangeArgs}
use Rattle.kadm_changes.specs.declared.changes.ChangeArgs.TheVariants.{Drop, DropOlder, Policy, Remove}

-- a change for each of these is made, one after another
abbrev pub AreMade : {A : Type 0} → (A → Principals → Principals → Type 0) → List A → Principals → Principals → Type 0
AreMade by [] p new = new ≡ p
AreMade by (one ∷ others) p new = (next : Principals) × by one p next × AreMade by others next new

-- ---- settings

abbrev pub SetBy : Option World → Components → Asked → Principals → Principals → Type 0
SetBy world who setting p new = IsPolicySet world setting who p new

-- all settings are made, in their order
abbrev pub AreSet : Option World → List Asked → Components → Principals → Principals → Type 0
AreSet world settings who p new = AreMade (SetBy world who) settings p new

-- ---- principals

abbrev pub IsChanged : Option World → List Asked → ChangeArgs → Components → Principals → Principals → Type 0
IsChanged world settings (Drop version) who p new = Makes p who (row_changes.DropKeys version) new
IsChanged world settings DropOlder who p new = IsOlderDropped who p new
IsChanged world settings Policy who p new = AreSet world settings who p new
IsChanged world settings Remove who p new = Makes p who row_changes.Remove new

-- the principal that a text names is changed
abbrev pub IsNamedChanged : Option World → List Asked → ChangeArgs → Text → Principals → Principals → Type 0
IsNamedChanged world settings how name p new =
    (who : Components) × IsNameText who name × IsChanged world settings how who p new

-- each principal that is named is changed, in their order
abbrev pub AreChanged : Option World → List Asked → ChangeArgs → List Text → Principals → Principals → Type 0
AreChanged world settings how names p new = AreMade (IsNamedChanged world settings how) names p new
