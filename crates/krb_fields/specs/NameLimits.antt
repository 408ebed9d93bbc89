-- The limits of names.
use Rattle.std.specs.Prelude.{Bool, ◌&&◌, nat_lt, nat_le, IsTrue, List, ℕ, length}
use Rattle.std.specs.List.{list_all}
use Rattle.krb_fields.specs.Name.{Components}

-- a component or a realm has 1 to 255 bytes
abbrev pub is_component : List ℕ → Bool
is_component octets = nat_lt 0 (length octets) && nat_le (length octets) 255 && list_all (λ o. nat_lt o 256) octets

-- a name has 1 to 16 components
abbrev pub is_within_limits : Components → Bool
is_within_limits name = nat_lt 0 (length name) && nat_le (length name) 16 && list_all is_component name

abbrev pub IsComponent : List ℕ → Type 0
IsComponent octets = IsTrue (is_component octets)

abbrev pub IsWithinLimits : Components → Type 0
IsWithinLimits name = IsTrue (is_within_limits name)
