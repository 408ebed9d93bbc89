-- The values of a policy's fields, as an administrator writes them.
use Rattle.std.specs.Prelude.{◌≡◌, ◌⊎◌, ◌+◌, ℕ, pos, List, Option, Some, None}
use Rattle.krb_fields.specs.Moment.{IsSecond}
use Rattle.text_fields.specs.Settings.{IsDateOf, IsSettingOf, life_of, time_of}
use Rattle.text_fields.specs.Spans.{IsSpanText}
use Rattle.text_fields.specs.declared.settings.Setting.{Setting}
use Rattle.text_fields.specs.declared.settings.Setting.TheVariants as settings

-- a field that is a lifetime, with the time span that is its value
abbrev pub IsLifeOf : Setting → List ℕ → List ℕ → Type 0
IsLifeOf (settings.Life field life) name value = (life_of name ≡ Some field) × IsSpanText life value
IsLifeOf (settings.Flag field on) name value = ⊥
IsLifeOf (settings.Time field time) name value = ⊥

-- a field that is a time, whose value is a time span from a second on, up to the end of 9999
abbrev pub IsTimeFrom : ℕ → Setting → List ℕ → List ℕ → Type 0
IsTimeFrom now (settings.Time field (Some second)) name value =
    (time_of name ≡ Some field) × (span : ℕ) × IsSpanText span value × (second ≡ pos (now + span)) × IsSecond second
IsTimeFrom now (settings.Time field None) name value = ⊥
IsTimeFrom now (settings.Flag field on) name value = ⊥
IsTimeFrom now (settings.Life field life) name value = ⊥

-- a field with its value, in an administrator's words, which doesn't depend on the clock
abbrev pub IsFixedValue : Setting → List ℕ → List ℕ → Type 0
IsFixedValue setting name value =
    IsSettingOf setting name value ⊎ IsDateOf setting name value ⊎ IsLifeOf setting name value
