-- Dates with a time of day in UTC, as RFC 3339, section 5.6 has them.
use Rattle.std.specs.Prelude.{◌≡◌, ◌⊎◌, ℕ, ℤ, List, [], ◌∷◌, ◌++◌, length, slice_index, codes}
use Rattle.krb_der.specs.Time.{time_octets}
use Rattle.krb_fields.specs.Moment.{IsSecond}

-- the punctuation in YYYY-MM-DDTHH:MM:SSZ
abbrev pub marks : List ℕ → List ℕ
marks t = slice_index t 4 ∷ slice_index t 7 ∷ slice_index t 10 ∷ slice_index t 13 ∷ slice_index t 16 ∷ []

-- the rest: YYYYMMDDHHMMSSZ
abbrev pub unmarked : List ℕ → List ℕ
unmarked t =
    slice_index t 0 ∷ slice_index t 1 ∷ slice_index t 2 ∷ slice_index t 3 ∷ slice_index t 5 ∷ slice_index t 6
    ∷ slice_index t 8 ∷ slice_index t 9 ∷ slice_index t 11 ∷ slice_index t 12 ∷ slice_index t 14 ∷ slice_index t 15
    ∷ slice_index t 17 ∷ slice_index t 18 ∷ slice_index t 19 ∷ []

-- a second, as its date and time of day
pub record IsMomentText (second : ℤ) (text : List ℕ) : Type 0 where
  pub fits : IsSecond second
  pub len : length text ≡ 20
  pub marked : marks text ≡ codes "--T::"
  pub digits : unmarked text ≡ time_octets second

-- a second, as its date and time of day, or as its date alone if the day starts with it
abbrev pub IsDateText : ℤ → List ℕ → Type 0
IsDateText second text = IsMomentText second text ⊎ IsMomentText second (text ++ codes "T00:00:00Z")
