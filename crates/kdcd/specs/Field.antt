-- The fields of a line, and the texts that spell them.
use Rattle.std.specs.Prelude.{◌≡◌, ◌==◌, ℕ, ◌<◌, ◌≤◌, pos, false, List, [], ◌∷◌, length, Ok, ◌⊎◌, codes}
use Rattle.std.specs.List.{before_first, after_first, slice_split, position_or_len}
use Rattle.std.specs.Str.Parse.{IsNumeral, digits_value}
use Rattle.hex.specs.Hex.{decode_of, decode_sized}
use Rattle.enctypes.specs.declared.key.Key.{Key}
use Rattle.enctypes.specs.Etype.{number, key_len}
use Rattle.krb_fields.specs.declared.moment.Moment.{Moment}
use Rattle.krb_elements.specs.Simple.{IsMicrosecond}
use Rattle.krb_fields.specs.Moment.{IsSecond}
use Rattle.principal_rows.specs.KeyList.{has_type_twice}
use Rattle.principal_rows.specs.declared.limits.Limits.{Limits}
use Rattle.text_fields.specs.Numbers.{IsNumberText, IsU32Text}

-- a moment: whole seconds since 1970, and microseconds
pub record IsMomentText (at : Moment) (sec_text usec_text : List ℕ) : Type 0 where
  pub sec_numeral : IsNumeral 10 sec_text
  pub sec : at.sec ≡ pos (digits_value 10 sec_text)
  pub sec_fits : IsSecond at.sec
  pub usec : IsNumberText at.usec usec_text
  pub usec_fits : IsMicrosecond at.usec

-- the limits: five numbers; the size of a replay cache is 1 to 65536 authenticators. The replies to requests of up to
-- 4096 bytes are kept
abbrev pub AreLimitsTexts : Limits → List (List ℕ) → Type 0
AreLimitsTexts limits (remembered ∷ lock_after ∷ lock_seconds ∷ life ∷ renewable ∷ []) =
    IsU32Text limits.remembered remembered × IsU32Text limits.lock_after lock_after
    × IsU32Text limits.lock_seconds lock_seconds
    × IsU32Text limits.greatest_life life × IsU32Text limits.greatest_renewable renewable
    × (1 ≤ limits.remembered) × (limits.remembered ≤ 65536) × (limits.kept ≡ 4096)
AreLimitsTexts limits texts = ⊥

-- `-` for no bytes, otherwise hexadecimal in either case
abbrev pub IsOctetsText : List ℕ → List ℕ → Type 0
IsOctetsText octets text = ((text ≡ codes "-") × (octets ≡ [])) ⊎ ((0 < length text) × (decode_of text ≡ Ok octets))

-- a key: the number of its encryption type, a colon (3A), and its bytes in hexadecimal in either case. Their number is
-- the type's key length
pub record IsKeyText (key : Key) (text : List ℕ) : Type 0 where
  pub colon : position_or_len (λ b. b == 0x3A) text < length text
  pub numeral : IsNumeral 10 (before_first (λ b. b == 0x3A) text)
  pub etype : number key.etype ≡ pos (digits_value 10 (before_first (λ b. b == 0x3A) text))
  pub octets : decode_sized (after_first (λ b. b == 0x3A) text) (key_len key.etype) ≡ Ok key.bytes

-- each text is that of the key at its place
abbrev pub AreKeyTexts : List Key → List (List ℕ) → Type 0
AreKeyTexts [] [] = Unit {0}
AreKeyTexts (k ∷ ks) (t ∷ ts) = IsKeyText k t × AreKeyTexts ks ts
AreKeyTexts [] (t ∷ ts) = ⊥
AreKeyTexts (k ∷ ks) [] = ⊥

-- keys are separated by commas (2C), and no encryption type occurs twice
pub record IsKeysText (keys : List Key) (text : List ℕ) : Type 0 where
  pub parts : AreKeyTexts keys (slice_split (λ b. b == 0x2C) text)
  pub distinct : has_type_twice keys ≡ false
