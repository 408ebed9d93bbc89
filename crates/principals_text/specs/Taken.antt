-- The settings that are taken from a reader; for private clauses.
use Rattle.std.specs.Prelude.{◌≡◌, List, map, ◌++◌}
use Rattle.json.specs.Token.{Token}
use Rattle.principal_rows.specs.declared.policy.Policy.{Policy}
use Rattle.text_fields.specs.declared.settings.Setting.{Setting}
use Rattle.text_fields.specs.Settings.{place, with_settings}
use Rattle.principals_text.specs.Tokens.{settings_tokens}

-- the first tokens are settings of the same fields as these, and the new policy has them
pub record AreTaken (fields : List Setting) (policy : Policy) (old : List Token) (made : Policy) (new : List Token)
    : Type 0 where
  pub found : List Setting
  pub alike : map place found ≡ map place fields
  pub tokens : old ≡ settings_tokens found ++ new
  pub set : made ≡ with_settings found policy
