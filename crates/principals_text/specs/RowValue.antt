-- The row that a JSON value denotes, and the value that is written for a row.
use Rattle.std.specs.Prelude.{ℕ, ℤ, pos, ◌==◌, ◌||◌, not, nat_lt, nat_le, length, List, [], ◌∷◌}
use Rattle.std.specs.Prelude.{codes, if◌then◌else◌, Option, Some, None}
use Rattle.std.specs.Result.{result_ok}
use Rattle.hex.specs.Hex.{decode_sized}
use Rattle.serde_json.specs.Data.{Data, null, object, Items, no_items, item}
use Rattle.serde_json.specs.Events.{members_len}
use Rattle.serde_json.specs.Find.{get, as_bool, as_number, as_str, as_array, as_u64}
use Rattle.enctypes.specs.declared.etype.Etype.{Etype}
use Rattle.enctypes.specs.declared.key.Key.{Key}
use Rattle.enctypes.specs.Etype.{key_len}
use Rattle.enctypes.specs.Numbered.{type_numbered}
use Rattle.principal_rows.specs.declared.policy.Policy.{Policy}
use Rattle.principal_rows.specs.declared.row.KeyVersion.{KeyVersion}
use Rattle.principal_rows.specs.declared.row.Row.{Row}
use Rattle.principal_rows.specs.Policy.{default_policy}
use Rattle.principal_rows.specs.KeyList.{has_type_twice}
use Rattle.principal_rows.specs.Versions.{are_versions}
use Rattle.text_fields.specs.declared.settings.Setting.{Setting}
use Rattle.text_fields.specs.declared.settings.Setting.TheVariants.{Flag, Life, Time}
use Rattle.text_fields.specs.Settings.{setting_name, settings_of, with_setting}
use Rattle.principals_text.specs.declared.format.Format.{Format}
use Rattle.principals_text.specs.Format.{lacks, row_members}

-- the second step, if the first gave a value
infixl 10 ◌>>=◌
abbrev pub ◌>>=◌ : {A B : Type 0} → Option A → (A → Option B) → Option B
Some x >>= f = f x
None >>= f = None

-- ---- simple values

-- how many members an object has; other values have none
abbrev pub member_count : Data → ℕ
member_count (object ms) = members_len ms
member_count _ = 0

abbrev pub unsigned_of : Data → Option ℕ
unsigned_of d = as_number d >>= as_u64

abbrev pub u32_of : Data → Option ℕ
u32_of d = do
  n ← unsigned_of d
  if nat_lt n 4294967296 then Some n else None

-- `null`, or a second from the start of 1970 to the end of 9999
abbrev pub time_of : Data → Option (Option ℤ)
time_of null = Some None
time_of d = do
  n ← unsigned_of d
  if nat_le n 253402300799 then Some (Some (pos n)) else None

-- what f reads from each item
abbrev pub each : {A : Type 0} → (Data → Option A) → Items → Option (List A)
each f no_items = Some []
each f (item d ds) = do
  x ← f d
  xs ← each f ds
  Some (x ∷ xs)

-- ---- keys

abbrev pub etype_value : Data → Option Etype
etype_value d = unsigned_of d >>= λ n. type_numbered (pos n)

-- the key with this type and the bytes that a text gives in hexadecimal
abbrev pub decoded : Etype → List ℕ → Option Key
decoded etype text = do
  octets ← result_ok (decode_sized text (key_len etype))
  Some (record { etype = etype; bytes = octets })

abbrev pub key_of : Data → Option Key
key_of d = if not (member_count d == 2) then None else do
  etype ← get (codes "etype") d >>= etype_value
  text ← get (codes "key") d >>= as_str
  decoded etype text

-- at least one key, and no encryption type twice
abbrev pub list_of : List Key → Option (List Key)
list_of keys = if length keys == 0 || has_type_twice keys then None else Some keys

abbrev pub keys_of : Data → Option (List Key)
keys_of d = do
  items ← as_array d
  keys ← each key_of items
  list_of keys

abbrev pub version_of : Data → Option KeyVersion
version_of d = if not (member_count d == 2) then None else do
  kvno ← get (codes "version") d >>= u32_of
  keys ← get (codes "keys") d >>= keys_of
  Some (record { number = kvno; keys = keys })

abbrev pub versions_of : Data → Option (List KeyVersion)
versions_of d = do
  items ← as_array d
  versions ← each version_of items
  if are_versions versions then Some versions else None

-- ---- rows

-- the setting of this field that a value denotes
abbrev pub setting_from : Setting → Data → Option Setting
setting_from (Flag field _) d = do
  on ← as_bool d
  Some (Flag field on)
setting_from (Life field _) d = do
  seconds ← u32_of d
  Some (Life field seconds)
setting_from (Time field _) d = do
  second ← time_of d
  Some (Time field second)

-- the setting of this field in a row, or this one if rows of the format lack the field
abbrev pub setting_in : Format → Data → Setting → Option Setting
setting_in format d setting =
    if lacks format setting then Some setting else get (setting_name setting) d >>= setting_from setting

-- the policy with the settings of these fields in a row
abbrev pub policy_with : Format → Data → List Setting → Policy → Option Policy
policy_with format d [] policy = Some policy
policy_with format d (s ∷ ss) policy = do
  found ← setting_in format d s
  policy_with format d ss (with_setting found policy)

abbrev pub policy_of : Format → Data → Option Policy
policy_of format d = policy_with format d (settings_of default_policy) default_policy

-- all members are present, and no others
abbrev pub row_of : Format → Data → Option Row
row_of format d = if not (member_count d == row_members format) then None else do
  policy ← policy_of format d
  versions ← get (codes "keys") d >>= versions_of
  Some (record { versions = versions; policy = policy })
