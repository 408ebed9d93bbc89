-- The parts of a principal that have no place in a row.
use Rattle.std.specs.Prelude.{◌==◌, ◌&&◌, ◌||◌, ◌++◌, not, ℕ, Bool, true, false, List, [], ◌∷◌, bytes_eq, is_some}
use Rattle.std.specs.Prelude.{is_none}
use Rattle.std.specs.Prelude.{Option, Some, None, if◌then◌else◌, bit_and}
use Rattle.std.specs.List.{list_any}
use Rattle.std.specs.Option.{option_to_list}
use Rattle.krb_fields.specs.NameLimits.{is_within_limits}
use Rattle.krb_fields.specs.Salt.{default_salt}
use Rattle.mit_dump.specs.Entries.{place_of}
use Rattle.mit_dump.specs.Master.{part_tagged}
use Rattle.mit_dump.specs.Place.{has_key}
use Rattle.mit_dump.specs.declared.losses.Loss.{Loss}
use Rattle.mit_dump.specs.declared.losses.Loss.TheVariants as loss
use Rattle.mit_dump.specs.declared.part.Part.{Part}
use Rattle.mit_dump.specs.declared.principal.DumpedPrincipal.{DumpedPrincipal}
use Rattle.mit_dump.specs.declared.stored_key.StoredKey.{StoredKey}

abbrev pub loss_if : Bool → Loss → List Loss
loss_if true lost = lost ∷ []
loss_if false lost = []

-- ---- a policy

-- the second four bytes of the data with the number 3 are the length of the policy's name
abbrev pub names_policy : List ℕ → Bool
names_policy (_ ∷ _ ∷ _ ∷ _ ∷ a ∷ b ∷ c ∷ d ∷ _) = not (a == 0) || (not (b == 0) || (not (c == 0) || not (d == 0)))
names_policy _ = false

abbrev pub is_policy : Option Part → Bool
is_policy (Some part) = names_policy part.octets
is_policy None = false

abbrev pub has_policy : List Part → Bool
has_policy tagged = is_policy (part_tagged 3 tagged)

-- ---- keys

-- another key with the same type and version
abbrev pub has_twin : StoredKey → List StoredKey → Bool
has_twin k others = list_any (λ other. other.key.tag == k.key.tag && other.version == k.version) others

-- the salt is the default one, by its type or by its bytes
abbrev pub is_default : List ℕ → Option Part → Bool
is_default salt (Some given) = given.tag == 0 || bytes_eq given.octets salt
is_default salt None = true

-- what is lost of a key that these follow
abbrev pub key_loss : List ℕ → StoredKey → List StoredKey → Option Loss
key_loss salt k others =
    if k.version == 0 then Some (loss.NoVersion k.key.tag)
    else if is_none (place_of k) then Some (loss.KeyType k.key.tag k.version)
    else if has_twin k others then Some (loss.Twin k.key.tag k.version)
    else if not (is_default salt k.salt) then Some (loss.Salt k.key.tag k.version)
    else None

abbrev pub key_losses : List ℕ → List StoredKey → List Loss
key_losses salt [] = []
key_losses salt (k ∷ ks) = option_to_list (key_loss salt k ks) ++ key_losses salt ks

-- ---- a principal

-- the bits of attributes without a place: all but those of 00d0d2db
abbrev pub lost_bits : ℕ → ℕ
lost_bits attributes = bit_and attributes 0xFF2F2D24

-- what is lost of a principal in a database of this realm
abbrev pub losses : List ℕ → DumpedPrincipal → List Loss
losses realm p =
    loss_if (not (bytes_eq p.realm realm)) loss.Realm
    ++ loss_if (not (is_within_limits p.name.components)) loss.Name
    ++ loss_if (not (has_key p.keys.items)) loss.NoKeys
    ++ loss_if (has_policy p.tagged.items) loss.Policy
    ++ loss_if (is_some (part_tagged 11 p.tagged.items)) loss.Strings
    ++ loss_if (not (lost_bits p.numbers.attributes == 0)) (loss.Attributes (lost_bits p.numbers.attributes))
    ++ key_losses (default_salt p.realm p.name.components) p.keys.items
