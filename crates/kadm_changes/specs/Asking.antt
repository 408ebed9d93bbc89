-- The settings that a command asks for, and times that are past.
use Rattle.std.specs.Prelude.{◌≡◌, ◌≤ℤ◌, ℕ, ℤ, pos, Bool, true, List, map, Option, Some, None, IfSome, ⊤}
use Rattle.file_store.specs.World.{World}
use Rattle.text_fields.specs.declared.settings.Setting.{Setting}
use Rattle.text_fields.specs.declared.settings.Setting.TheVariants as settings
use Rattle.text_fields.specs.declared.settings.TimeField.TheVariants as times
use Rattle.kadm_changes.specs.Texts.{Text}
use Rattle.kadm_changes.specs.declared.asking.AskedSetting.{AskedSetting}

-- what a setting asks for: a field, its value, and whether a time must not be past
pub record Asked : Type 0 where
  pub field : Text
  pub value : Text
  pub ahead : Bool

-- the same texts, as they are lent
abbrev pub asked_of : AskedSetting → Asked
asked_of setting = record { field = setting.field.now; value = setting.value.now; ahead = setting.ahead }

abbrev pub all_asked : List AskedSetting → List Asked
all_asked settings = map asked_of settings

-- when the principal or its password expires by a setting
abbrev pub expiry : Setting → Option ℤ
expiry (settings.Time times.Expires time) = time
expiry (settings.Time times.PasswordExpires time) = time
expiry (settings.Time times.RevokedBefore time) = None
expiry (settings.Flag field on) = None
expiry (settings.Life field life) = None

-- a time, if there is one, is not before a second
abbrev pub IsFrom : ℕ → Option ℤ → Type 0
IsFrom now None = ⊤
IsFrom now (Some expires) = pos now ≤ℤ expires

-- nothing expires before the clock's second, where a time must not be past
abbrev pub IsTimely : Bool → Option World → Setting → Type 0
IsTimely ahead world setting = ahead ≡ true → IfSome world (λ held. IsFrom held.now (expiry setting))
