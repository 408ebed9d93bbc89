-- The parts of a database that are read as they were written.
use Rattle.std.specs.Prelude.{◌≡◌, ◌<◌, ℤ, Option, Some, None}
use Rattle.krb_fields.specs.Moment.{IsSecond}
use Rattle.principal_rows.specs.declared.name_map.Entry.{Entry}
use Rattle.principal_rows.specs.declared.row.Row.{Row}
use Rattle.text_fields.specs.declared.settings.Setting.{Setting}
use Rattle.text_fields.specs.declared.settings.Setting.TheVariants.{Flag, Life, Time}
use Rattle.principals_text.specs.Format.{newest}
use Rattle.principals_text.specs.RowValue.{row_of}
use Rattle.principals_text.specs.RowWritten.{row_value}

-- a second within its range
abbrev pub IsTime : Option ℤ → Type 0
IsTime None = Unit {0}
IsTime (Some z) = IsSecond z

-- a setting whose value is within its range
abbrev pub IsFitting : Setting → Type 0
IsFitting (Flag field on) = Unit {0}
IsFitting (Life field life) = life < 4294967296
IsFitting (Time field time) = IsTime time

abbrev pub IsRowReadBack : Row → Type 0
IsRowReadBack row = row_of newest (row_value row) ≡ Some row

abbrev pub IsEntryReadBack : Entry Row → Type 0
IsEntryReadBack entry = IsRowReadBack entry.value
