-- The tokens of what is written; for private clauses.
use Rattle.std.specs.Prelude.{◌≡◌, ℕ, List, [], ◌∷◌, ◌++◌, Some, String, string_bytes}
use Rattle.std.specs.List.{flat_map}
use Rattle.std.specs.Borrow.{Bor}
use Rattle.std.specs.declared.alloc.Global.{Global}
use Rattle.json.specs.Token.{Token}
use Rattle.json.specs.Tree.{json_tokens}
use Rattle.json.specs.Written.{Written}
use Rattle.serde_json.specs.Data.{Data, Members, no_members, member}
use Rattle.serde_json.specs.Read.{of_json}
use Rattle.serde_json.specs.Written.{outline}
use Rattle.principal_rows.specs.declared.row.Row.{Row}
use Rattle.text_fields.specs.declared.settings.Setting.{Setting}
use Rattle.text_fields.specs.Settings.{setting_name}
use Rattle.principals_text.specs.RowWritten.{setting_value, row_value}

-- the tokens of a value that has no float
abbrev pub data_tokens : Data → List Token
data_tokens d = json_tokens (outline d)

-- the tokens of a member
abbrev pub member_tokens : List ℕ → Data → List Token
member_tokens name d = Token.key name ∷ data_tokens d

-- the tokens of the member of a setting
abbrev pub setting_tokens : Setting → List Token
setting_tokens s = member_tokens (setting_name s) (setting_value s)

-- the tokens of several settings, one after another
abbrev pub settings_tokens : List Setting → List Token
settings_tokens = flat_map setting_tokens

-- the tokens of several values, one after another
abbrev pub values_tokens : {A : Type 0} → (A → Data) → List A → List Token
values_tokens f [] = []
values_tokens f (x ∷ xs) = data_tokens (f x) ++ values_tokens f xs

-- what is written for the value is read as the value
unfoldable pub ReadsBack : Data → Type 0
ReadsBack d = of_json (outline d) ≡ Some d

-- a writer has these additional tokens, after the same bytes
pub record IsLonger (old new : Written) (ts : List Token) : Type 0 where
  pub tokens : new.tokens ≡ old.tokens ++ ts
  pub before : new.before ≡ old.before

-- the members that are written for rows with texts as names
abbrev pub named_members : List (String Global × Bor Row) → Members
named_members [] = no_members
named_members (e ∷ es) = member (string_bytes e.0) (row_value e.1.now) (named_members es)

-- their tokens, without the ends of the object
abbrev pub named_tokens : List (String Global × Bor Row) → List Token
named_tokens [] = []
named_tokens (e ∷ es) = member_tokens (string_bytes e.0) (row_value e.1.now) ++ named_tokens es
