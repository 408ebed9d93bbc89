-- The database that a JSON value denotes, or its first fault.
use Rattle.std.specs.Prelude.{ℕ, ◌==◌, not, List, [], ◌∷◌, codes, if◌then◌else◌, Option, Some, None, Result, Ok, Err}
use Rattle.std.specs.FinMap.{FinMap, contains_key, from_entries}
use Rattle.serde_json.specs.Data.{Data, object, Members, no_members, member}
use Rattle.serde_json.specs.Find.{get, as_str, as_object}
use Rattle.serde_json.specs.Read.{read}
use Rattle.krb_fields.specs.Name.{Components, name_cmp}
use Rattle.principal_rows.specs.declared.row.Row.{Row}
use Rattle.principals_text.specs.declared.format.Format.{Format}
use Rattle.principals_text.specs.declared.read_fault.ReadError.{ReadError}
use Rattle.principals_text.specs.declared.read_fault.ReadError.TheVariants.{NotJson, BadVersion, BadRow}
use Rattle.principals_text.specs.declared.read_fault.ReadError.TheVariants.{NoTicketGranter}
use Rattle.principals.specs.Database.{Principals}
use Rattle.krb_fields.specs.Granting.{tgs_principal}
use Rattle.principals_text.specs.Format.{format_of}
use Rattle.principals_text.specs.NameOf.{component_of, name_of}
use Rattle.principals_text.specs.RowValue.{◌>>=◌, member_count, unsigned_of, row_of}

-- each member is a name's text with its row
abbrev pub entries_of : Format → Members → Option (List (Components × Row))
entries_of format no_members = Some []
entries_of format (member text d ms) = do
  name ← name_of text
  row ← row_of format d
  entries ← entries_of format ms
  Some ((name, row) ∷ entries)

abbrev pub realm_of : Data → Option (List ℕ)
realm_of d = get (codes "realm") d >>= as_str >>= component_of

abbrev pub rows_of : Format → Data → Option (FinMap name_cmp Row)
rows_of format d = do
  entries ← get (codes "principals") d >>= as_object >>= entries_of format
  Some (from_entries entries)

-- the realm and the rows, and no other member but the version
abbrev pub principals_of : Format → Data → Option Principals
principals_of format d = if not (member_count d == 3) then None else do
  realm ← realm_of d
  rows ← rows_of format d
  Some (record { realm = realm; rows = rows })

abbrev pub granting : Option Principals → Result Principals ReadError
granting None = Err BadRow
granting (Some p) = if contains_key p.rows (tgs_principal p.realm) then Ok p else Err NoTicketGranter

abbrev pub format_value : Data → Option Format
format_value d = get (codes "version") d >>= unsigned_of >>= format_of

abbrev pub in_format : Data → Option Format → Result Principals ReadError
in_format d None = Err BadVersion
in_format d (Some format) = granting (principals_of format d)

abbrev pub database : Data → Result Principals ReadError
database (object ms) = in_format (object ms) (format_value (object ms))
database _ = Err NotJson

abbrev pub database_or : Option Data → Result Principals ReadError
database_or None = Err NotJson
database_or (Some d) = database d

-- the database of a text, from the value that `serde_json` reads
abbrev pub text_database : List ℕ → Result Principals ReadError
text_database text = database_or (read text)
