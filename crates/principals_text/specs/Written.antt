-- The JSON value that is written for a database.
use Rattle.std.specs.Prelude.{List, [], ◌∷◌, codes}
use Rattle.std.specs.FinMap.{entries}
use Rattle.serde_json.specs.Data.{Data, number, string, object, unsigned, Members, no_members, member, put}
use Rattle.krb_fields.specs.Name.{Components}
use Rattle.krb_fields.specs.NameText.{component_text, text_of}
use Rattle.principal_rows.specs.declared.row.Row.{Row}
use Rattle.principals.specs.Database.{Principals}
use Rattle.text_fields.specs.Settings.{newest_version}
use Rattle.principals_text.specs.RowWritten.{row_value}

-- a member for each row, with the text of its name
abbrev pub with_rows : Members → List (Components × Row) → Members
with_rows ms [] = ms
with_rows ms (e ∷ es) = with_rows (put (text_of e.0) (row_value e.1) ms) es

abbrev pub rows_value : List (Components × Row) → Data
rows_value es = object (with_rows no_members es)

abbrev pub database_value : Principals → Data
database_value p =
    object (member (codes "principals") (rows_value (entries p.rows))
    (member (codes "realm") (string (component_text p.realm))
    (member (codes "version") (number (unsigned newest_version)) no_members)))
