-- The versions of a database's text, and how their rows differ.
use Rattle.std.specs.Prelude.{ℕ, suc, nat_lt, nat_le, ◌&&◌, not, length, Bool, if◌then◌else◌, Option, Some, None}
use Rattle.std.specs.List.{filter}
use Rattle.principal_rows.specs.Policy.{default_policy}
use Rattle.text_fields.specs.declared.settings.Setting.{Setting}
use Rattle.text_fields.specs.Settings.{newest_version, settings_of, since}
use Rattle.principals_text.specs.declared.format.Format.{Format}

-- versions are counted from 1
abbrev pub format_of : ℕ → Option Format
format_of n = if nat_lt 0 n && nat_le n newest_version then Some (record { number = n }) else None

-- the version that is written
abbrev pub newest : Format
newest = record { number = newest_version }

-- whether rows of a version lack a field, which a later one brought
abbrev pub lacks : Format → Setting → Bool
lacks format setting = nat_lt format.number (since setting)

-- how many members a row has: the fields, and the keys
abbrev pub row_members : Format → ℕ
row_members format = suc (length (filter (λ setting. not (lacks format setting)) (settings_of default_policy)))
