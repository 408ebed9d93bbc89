-- A name that is copied component by component is equal.
use Rattle.std.proofs.Common.{◌≡◌, ℕ, List, map, refl}
use Rattle.krb_elements.specs.CopyLaws.{map_all}
use Rattle.krb_fields.specs.PrincipalName.{Name}

abbrev pub same_name : Name → Name
same_name n = record { name_type = n.name_type; components = map (λ x. x) n.components }

pub name_copied : (n : Name) → same_name n ≡ n
name_copied n = rw (map_all (λ (x : List ℕ). x) (λ x. refl) n.components) refl
