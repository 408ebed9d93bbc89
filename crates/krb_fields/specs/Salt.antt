-- The default salt.
use Rattle.std.specs.Prelude.{ℕ, List, ◌++◌}
use Rattle.std.specs.List.{concat}
use Rattle.krb_fields.specs.Name.{Components}

-- the realm followed by the components, with nothing between them
abbrev pub default_salt : List ℕ → Components → List ℕ
default_salt realm components = realm ++ concat components
