-- Settings of a policy, and the texts that spell them.
use Rattle.std.specs.Prelude.{◌≡◌, ◌==◌, ℕ, ℤ, pos, ◌<◌, Bool, true, false, List, [], ◌∷◌, length, Option, Some, None}
use Rattle.std.specs.Prelude.{codes, bytes_eq, find, option_and_then, option_map}
use Rattle.std.specs.List.{before_first, after_first, position_or_len, fold}
use Rattle.std.specs.Str.Parse.{IsNumeral, digits_value}
use Rattle.krb_fields.specs.Moment.{IsSecond}
use Rattle.principal_rows.specs.Policy.{default_policy}
use Rattle.principal_rows.specs.declared.policy.Policy.{Policy}
use Rattle.text_fields.specs.declared.settings.FieldKind.{FieldKind}
use Rattle.text_fields.specs.declared.settings.FieldKind.TheVariants as kinds
use Rattle.text_fields.specs.declared.settings.FlagField.{FlagField}
use Rattle.text_fields.specs.declared.settings.FlagField.TheVariants.{Disabled, Preauth, Forwardable, Proxiable}
use Rattle.text_fields.specs.declared.settings.FlagField.TheVariants.{Postdate, OkAsDelegate, Service}
use Rattle.text_fields.specs.declared.settings.LifeField.{LifeField}
use Rattle.text_fields.specs.declared.settings.LifeField.TheVariants.{GreatestLife, GreatestRenewable}
use Rattle.text_fields.specs.declared.settings.TimeField.{TimeField}
use Rattle.text_fields.specs.declared.settings.TimeField.TheVariants.{Expires, PasswordExpires, RevokedBefore}
use Rattle.text_fields.specs.declared.settings.Setting.{Setting}
use Rattle.text_fields.specs.declared.settings.Setting.TheVariants.{Flag, Life, Time}
use Rattle.text_fields.specs.Dates.{IsDateText}
use Rattle.text_fields.specs.Numbers.{IsU32Text}

-- ---- the fields

-- the name of each, and the version of the database's text that brought it
abbrev pub flag_row : FlagField → List ℕ × ℕ
flag_row Disabled = (codes "disabled", 1)
flag_row Preauth = (codes "preauth", 1)
flag_row Forwardable = (codes "forwardable", 1)
flag_row Proxiable = (codes "proxiable", 1)
flag_row Postdate = (codes "postdate", 1)
flag_row OkAsDelegate = (codes "ok_as_delegate", 1)
flag_row Service = (codes "service", 3)

abbrev pub life_row : LifeField → List ℕ × ℕ
life_row GreatestLife = (codes "greatest_life", 1)
life_row GreatestRenewable = (codes "greatest_renewable", 1)

abbrev pub time_row : TimeField → List ℕ × ℕ
time_row Expires = (codes "expires", 1)
time_row PasswordExpires = (codes "password_expires", 1)
time_row RevokedBefore = (codes "revoked_before", 2)

abbrev pub flag_name : FlagField → List ℕ
flag_name field = (flag_row field).0

abbrev pub life_name : LifeField → List ℕ
life_name field = (life_row field).0

abbrev pub time_name : TimeField → List ℕ
time_name field = (time_row field).0

abbrev pub setting_name : Setting → List ℕ
setting_name (Flag field on) = flag_name field
setting_name (Life field life) = life_name field
setting_name (Time field time) = time_name field

abbrev pub since : Setting → ℕ
since (Flag field on) = (flag_row field).1
since (Life field life) = (life_row field).1
since (Time field time) = (time_row field).1

-- the settings of a policy, in the order of their names
abbrev pub settings_of : Policy → List Setting
settings_of policy =
    Flag Disabled policy.disabled
    ∷ Time Expires policy.expires
    ∷ Flag Forwardable policy.forwardable
    ∷ Life GreatestLife policy.greatest_life
    ∷ Life GreatestRenewable policy.greatest_renewable
    ∷ Flag OkAsDelegate policy.ok_as_delegate
    ∷ Time PasswordExpires policy.password_expires
    ∷ Flag Postdate policy.postdate
    ∷ Flag Preauth policy.preauth
    ∷ Flag Proxiable policy.proxiable
    ∷ Time RevokedBefore policy.revoked_before
    ∷ Flag Service policy.service
    ∷ []

-- the field with this name, and its value for a new principal
unfoldable pub field_named : List ℕ → Option Setting
field_named name = find (λ setting. bytes_eq (setting_name setting) name) (settings_of default_policy)

abbrev pub as_flag : Setting → Option FlagField
as_flag (Flag field on) = Some field
as_flag _ = None

abbrev pub flag_of : List ℕ → Option FlagField
flag_of name = option_and_then as_flag (field_named name)

abbrev pub as_life : Setting → Option LifeField
as_life (Life field life) = Some field
as_life _ = None

abbrev pub life_of : List ℕ → Option LifeField
life_of name = option_and_then as_life (field_named name)

abbrev pub as_time : Setting → Option TimeField
as_time (Time field time) = Some field
as_time _ = None

abbrev pub time_of : List ℕ → Option TimeField
time_of name = option_and_then as_time (field_named name)

-- what the value of a field is
abbrev pub kind : Setting → FieldKind
kind (Flag field on) = kinds.Flag
kind (Life field life) = kinds.Life
kind (Time field time) = kinds.Time

abbrev pub field_kind : List ℕ → Option FieldKind
field_kind name = option_map kind (field_named name)

-- ---- their values, as texts

abbrev pub IsFlagText : Bool → List ℕ → Type 0
IsFlagText true text = text ≡ codes "true"
IsFlagText false text = text ≡ codes "false"

-- a whole second since 1970, up to the end of 9999, or `never`
abbrev pub IsTimeText : Option ℤ → List ℕ → Type 0
IsTimeText None text = text ≡ codes "never"
IsTimeText (Some second) text = IsNumeral 10 text × (second ≡ pos (digits_value 10 text)) × IsSecond second

abbrev pub IsSettingOf : Setting → List ℕ → List ℕ → Type 0
IsSettingOf (Flag field on) name value = (flag_of name ≡ Some field) × IsFlagText on value
IsSettingOf (Life field life) name value = (life_of name ≡ Some field) × IsU32Text life value
IsSettingOf (Time field time) name value = (time_of name ≡ Some field) × IsTimeText time value

-- a field that is a time, with a date as its value
abbrev pub IsDateOf : Setting → List ℕ → List ℕ → Type 0
IsDateOf (Time field (Some second)) name value = (time_of name ≡ Some field) × IsDateText second value
IsDateOf (Time field None) name value = ⊥
IsDateOf (Flag field on) name value = ⊥
IsDateOf (Life field life) name value = ⊥

-- a field's name, an equals sign (3D), and its value
pub record IsSettingText (setting : Setting) (text : List ℕ) : Type 0 where
  pub equals : position_or_len (λ b. b == 0x3D) text < length text
  pub parts : IsSettingOf setting (before_first (λ b. b == 0x3D) text) (after_first (λ b. b == 0x3D) text)

-- the policy with this field set
abbrev pub with_setting : Setting → Policy → Policy
with_setting (Flag Disabled on) policy = record policy { disabled = on }
with_setting (Flag Preauth on) policy = record policy { preauth = on }
with_setting (Flag Forwardable on) policy = record policy { forwardable = on }
with_setting (Flag Proxiable on) policy = record policy { proxiable = on }
with_setting (Flag Postdate on) policy = record policy { postdate = on }
with_setting (Flag OkAsDelegate on) policy = record policy { ok_as_delegate = on }
with_setting (Flag Service on) policy = record policy { service = on }
with_setting (Life GreatestLife life) policy = record policy { greatest_life = life }
with_setting (Life GreatestRenewable life) policy = record policy { greatest_renewable = life }
with_setting (Time Expires time) policy = record policy { expires = time }
with_setting (Time PasswordExpires time) policy = record policy { password_expires = time }
with_setting (Time RevokedBefore time) policy = record policy { revoked_before = time }

-- ---- the versions of the database's text

-- the newest one, and the text of its number
abbrev pub newest_version : ℕ
newest_version = 3

abbrev pub newest_version_text : List ℕ
newest_version_text = codes "3"

-- ---- setting them in order

-- how many fields come before the member `keys` of a row
abbrev pub before_keys : ℕ
before_keys = 5

-- the place of a setting among them
abbrev pub place : Setting → ℕ
place (Flag Disabled on) = 0
place (Time Expires time) = 1
place (Flag Forwardable on) = 2
place (Life GreatestLife life) = 3
place (Life GreatestRenewable life) = 4
place (Flag OkAsDelegate on) = 5
place (Time PasswordExpires time) = 6
place (Flag Postdate on) = 7
place (Flag Preauth on) = 8
place (Flag Proxiable on) = 9
place (Time RevokedBefore time) = 10
place (Flag Service on) = 11

-- the policy with all of these set, in order
abbrev pub with_settings : List Setting → Policy → Policy
with_settings settings policy = fold (λ made setting. with_setting setting made) policy settings
