-- The realm of a dump, and which principals have a place in its database.
use Rattle.std.specs.Prelude.{◌≡◌, ◌&&◌, ◌||◌, not, ℕ, Bool, false, List, [], ◌∷◌, bytes_eq, codes, is_some}
use Rattle.std.specs.Prelude.{Some, find}
use Rattle.std.specs.List.{list_any}
use Rattle.krb_fields.specs.Name.{Components}
use Rattle.krb_fields.specs.NameLimits.{is_within_limits}
use Rattle.mit_dump.specs.Entries.{place_of}
use Rattle.mit_dump.specs.declared.principal.DumpedPrincipal.{DumpedPrincipal}
use Rattle.mit_dump.specs.declared.stored_key.StoredKey.{StoredKey}

abbrev pub is_server : List ℕ → Bool
is_server component = bytes_eq component (codes "kadmin") || bytes_eq component (codes "kiprop")

abbrev pub is_master : List ℕ → List ℕ → Bool
is_master first second = bytes_eq first (codes "K") && bytes_eq second (codes "M")

-- the name is one of MIT's own: K/M, or kadmin or kiprop with another component
abbrev pub is_own : Components → Bool
is_own (first ∷ second ∷ []) = is_server first || is_master first second
is_own (first ∷ second ∷ others) = is_server first
is_own _ = false

-- krbtgt/REALM
abbrev pub grants_tickets : Components → List ℕ → Bool
grants_tickets (service ∷ instance ∷ []) realm = bytes_eq service (codes "krbtgt") && bytes_eq instance realm
grants_tickets _ realm = false

-- the realm is that of the first krbtgt/REALM@REALM
abbrev pub IsRealmOf : List DumpedPrincipal → List ℕ → Type 0
IsRealmOf found realm =
    (p : DumpedPrincipal) × (find (λ q. grants_tickets q.name.components q.realm) found ≡ Some p) × (realm ≡ p.realm)

abbrev pub has_key : List StoredKey → Bool
has_key keys = list_any (λ key. is_some (place_of key)) keys

abbrev pub has_place : List ℕ → DumpedPrincipal → Bool
has_place realm p =
    not (is_own p.name.components)
    && (bytes_eq p.realm realm && (is_within_limits p.name.components && has_key p.keys.items))
