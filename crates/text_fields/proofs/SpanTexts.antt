-- Texts that spell no time span and no lifetime.
use Rattle.std.proofs.Common.{◌≡◌, ◌⊎◌, ◌^◌, ◌<◌, ℕ, List, Option, Some, None, IfNone, inl, inr, subst, sym}
use Rattle.std.specs.Prelude.{IsSome, ◌↔◌}
use Rattle.std.specs.Str.Parse.{IsNumeral, digits_value}
use Rattle.text_fields.specs.Numbers.{IsU32Text}
use Rattle.text_fields.specs.Spans.{IsSpanText}
use Rattle.text_fields.specs.Values.{IsLifeOf, IsTimeFrom}
use Rattle.text_fields.specs.declared.settings.Setting.{Setting}
use Rattle.text_fields.specs.declared.settings.Setting.TheVariants.{Flag, Life, Time}

pub no_lifetime : (text : List ℕ) (number span : Option ℕ) → IsSome number ↔ (IsNumeral 10 text × (digits_value 10 text < 2 ^ 32)) → number ≡ None
    → IfNone span ((n : ℕ) → IsSpanText n text → ⊥) → IfNone span ((n : ℕ) → IsU32Text n text ⊎ IsSpanText n text → ⊥)
no_lifetime text number (Some n) read none no_span = tt
no_lifetime text number None read none no_span = λ n. either n
  where
    clash : IsSome {T = ℕ} None → ⊥
    clash e = cc

    either : (n : ℕ) → IsU32Text n text ⊎ IsSpanText n text → ⊥
    either n (inl ((numeral, value), fits)) = subst (λ o. IsSome o → ⊥) (sym none) clash (read.1 (numeral, subst (λ m. m < 2 ^ 32) (sym value) fits))
    either n (inr is) = no_span n is

-- where the value of a field is no time span, the field is no lifetime and no time from now

pub no_life : (name value : List ℕ) → ((n : ℕ) → IsSpanText n value → ⊥) → (setting : Setting) → IsLifeOf setting name value → ⊥
no_life name value none (Life field life) (named, is) = none life is
no_life name value none (Flag field on) e = e
no_life name value none (Time field time) e = e

pub no_time : (now : ℕ) (name value : List ℕ) → ((n : ℕ) → IsSpanText n value → ⊥) → (setting : Setting) → IsTimeFrom now setting name value → ⊥
no_time now name value none (Time field (Some second)) (named, span, is, at, fits) = none span is
no_time now name value none (Time field None) e = e
no_time now name value none (Flag field on) e = e
no_time now name value none (Life field life) e = e
