-- The JSON value that is written for a row: the members in the order of their names.
use Rattle.std.specs.Prelude.{ℕ, ℤ, List, [], ◌∷◌, map, take, drop, codes, Option, Some, None}
use Rattle.hex.specs.Hex.{encode_lower}
use Rattle.serde_json.specs.Data.{Data, null, boolean, number, string, array, object, unsigned, Items, Members, member}
use Rattle.serde_json.specs.Data.{no_members}
use Rattle.serde_json.specs.View.{items_of}
use Rattle.serde_json.specs.Find.{of_integer}
use Rattle.enctypes.specs.declared.key.Key.{Key}
use Rattle.enctypes.specs.Etype as etypes
use Rattle.principal_rows.specs.declared.row.KeyVersion.{KeyVersion}
use Rattle.principal_rows.specs.declared.row.Row.{Row}
use Rattle.text_fields.specs.declared.settings.Setting.{Setting}
use Rattle.text_fields.specs.declared.settings.Setting.TheVariants.{Flag, Life, Time}
use Rattle.text_fields.specs.Settings.{before_keys, setting_name, settings_of}

abbrev pub time_value : Option ℤ → Data
time_value None = null
time_value (Some second) = number (of_integer second)

abbrev pub each_value : {A : Type 0} → (A → Data) → List A → Items
each_value f xs = items_of (map f xs)

abbrev pub key_value : Key → Data
key_value key =
    object (member (codes "etype") (number (of_integer (etypes.number key.etype)))
    (member (codes "key") (string (encode_lower key.bytes)) no_members))

abbrev pub keys_value : List Key → Data
keys_value keys = array (each_value key_value keys)

abbrev pub version_value : KeyVersion → Data
version_value v =
    object (member (codes "keys") (keys_value v.keys)
    (member (codes "version") (number (unsigned v.number)) no_members))

abbrev pub versions_value : List KeyVersion → Data
versions_value versions = array (each_value version_value versions)

-- the value of a setting
abbrev pub setting_value : Setting → Data
setting_value (Flag field on) = boolean on
setting_value (Life field life) = number (unsigned life)
setting_value (Time field time) = time_value time

-- a member for each setting, and then these
abbrev pub setting_members : List Setting → Members → Members
setting_members [] more = more
setting_members (s ∷ ss) more = member (setting_name s) (setting_value s) (setting_members ss more)

abbrev pub row_members : Row → Members
row_members row =
    setting_members (take before_keys (settings_of row.policy))
    (member (codes "keys") (versions_value row.versions)
    (setting_members (drop before_keys (settings_of row.policy)) no_members))

abbrev pub row_value : Row → Data
row_value row = object (row_members row)
