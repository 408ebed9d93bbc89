-- The master keys of a realm, in MIT's stash file.
use Rattle.std.specs.Prelude.{◌==◌, ◌&&◌, ◌+◌, ◌*◌, ℕ, nat_lt, Bool, true, List, [], ◌∷◌, Option, Some, None, codes}
use Rattle.std.specs.Prelude.{find}
use Rattle.std.specs.Prelude.{option_map, if◌then◌else◌}
use Rattle.std.specs.Option.{option_and_then}
use Rattle.cred_files.specs.Keytab.{is_of}
use Rattle.cred_files.specs.declared.keytab_entry.KeytabEntry.{KeytabEntry}
use Rattle.enctypes.specs.Key.{ProtocolKey}
use Rattle.krb_fields.specs.Name.{Components}
use Rattle.mit_dump.specs.declared.part.Part.{Part}
use Rattle.mit_dump.specs.declared.principal.DumpedPrincipal.{DumpedPrincipal}

-- the first part with a number
abbrev pub part_tagged : ℕ → List Part → Option Part
part_tagged tag parts = find (λ part. part.tag == tag) parts

-- a version is two bytes, the lower first
abbrev pub version_in : List ℕ → Option ℕ
version_in (low ∷ high ∷ []) = Some (low + 256 * high)
version_in _ = None

abbrev pub version_of_part : Option Part → Option ℕ
version_of_part (Some part) = version_in part.octets
version_of_part None = None

-- the version of the master key stands in the tagged data with the number 8
abbrev pub master_version : List Part → Option ℕ
master_version tagged = version_of_part (part_tagged 8 tagged)

abbrev pub is_numbered : Option ℕ → ℕ → Bool
is_numbered (Some version) number = number == version
is_numbered None number = true

abbrev pub may_encrypt : Components → Option ℕ → KeytabEntry → Bool
may_encrypt service version e = is_of service e && is_numbered version e.version

abbrev pub lower : KeytabEntry → Option KeytabEntry → KeytabEntry
lower e None = e
lower e (Some later) = if nat_lt later.version e.version then later else e

-- the entry with the lowest version among those of a service, and of a version if there is one
abbrev pub first_master : Components → Option ℕ → List KeytabEntry → Option KeytabEntry
first_master service version [] = None
first_master service version (e ∷ es) =
    if may_encrypt service version e then Some (lower e (first_master service version es))
    else first_master service version es

-- K/M of a realm
abbrev pub master_service : List ℕ → Components
master_service realm = realm ∷ codes "K" ∷ codes "M" ∷ []

-- the master key that encrypts a principal's keys
abbrev pub master_key : List KeytabEntry → DumpedPrincipal → Option ProtocolKey
master_key stash p =
    option_map (λ e. e.key) (first_master (master_service p.realm) (master_version p.tagged.items) stash)
