-- What comes next in a text, as `serde_json` reads it; for private clauses.
use Rattle.std.specs.Prelude.{ℕ, ◌≡◌, List, [], codes, reverse, Option, Some}
use Rattle.std.specs.FinMap.{FinMap, from_entries}
use Rattle.json.specs.Token.{Token}
use Rattle.json.specs.Json.{value, members}
use Rattle.serde_json.specs.Data.{Data, string, number, object, unsigned, Members, no_members, member}
use Rattle.serde_json.specs.Read.{of_json, of_members, converted}
use Rattle.krb_fields.specs.Name.{name_cmp}
use Rattle.principal_rows.specs.NameMap.{pairs}
use Rattle.principal_rows.specs.declared.name_map.Entry.{Entry}
use Rattle.principal_rows.specs.declared.row.Row.{Row}
use Rattle.text_fields.specs.Settings.{newest_version}
use Rattle.principals_text.specs.Format.{newest}
use Rattle.principals_text.specs.NameOf.{component_of}
use Rattle.principals_text.specs.RowValue.{◌>>=◌}
use Rattle.principals_text.specs.Value.{entries_of}

-- the next value, nested no deeper than this, and the tokens after it
abbrev pub value_at : ℕ → List Token → Option (Data × List Token)
value_at depth ts = converted of_json (value depth ts)

-- the next members, up to the end of their object, added to those that were found; the number bounds their count
abbrev pub members_at : ℕ → Members → ℕ → List Token → Option (Members × List Token)
members_at depth found n ts = converted (λ ms. of_members ms found) (members (value depth) n ts)

-- the rows of members in the newest version
abbrev pub rows_in : Members → Option (FinMap name_cmp Row)
rows_in ms = entries_of newest ms >>= λ es. Some (from_entries es)

-- the value of a text in the newest version: its rows and its realm
abbrev pub text_value : Members → List ℕ → Data
text_value rows realm =
    object (member (codes "principals") (object rows)
    (member (codes "realm") (string realm)
    (member (codes "version") (number (unsigned newest_version)) no_members)))

-- the tokens are those of a whole text in the newest version, with this realm and these rows; if a name has several,
-- the last one counts
abbrev pub HoldsParts : List Token → List ℕ → List (Entry Row) → Type 0
HoldsParts ts realm entries =
    (rows : Members) × (text : List ℕ) × (value_at 127 ts ≡ Some (text_value rows text, []))
    × (rows_in rows ≡ Some (from_entries (pairs (reverse entries)))) × (component_of text ≡ Some realm)
