-- The lines of a script, and the texts that spell them.
use Rattle.std.specs.Prelude.{◌≡◌, ◌==◌, ℕ, ◌<◌, All, List, [], ◌∷◌, Option, Some, None, Ok, codes}
use Rattle.std.specs.List.{slice_split}
use Rattle.hex.specs.Hex.{decode_sized}
use Rattle.krb_fields.specs.declared.numbers.TheConstants.{NT_PRINCIPAL}
use Rattle.krb_fields.specs.PrincipalName.{Name}
use Rattle.krb_fields.specs.Name.{Components}
use Rattle.krb_fields.specs.declared.moment.Moment.{Moment}
use Rattle.krb_fields.specs.NameText.{IsNameText, IsComponentText}
use Rattle.enctypes.specs.declared.key.Key.{Key}
use Rattle.principal_rows.specs.declared.limits.Limits.{Limits}
use Rattle.kdcd.specs.declared.line.Line.{Line}
use Rattle.kdcd.specs.declared.line.LineRequest.{LineRequest}
use Rattle.kdcd.specs.declared.line.Line.TheVariants.{Open, Change, Request, Restart}
use Rattle.kdcd.specs.declared.line.LineChange.{LineChange}
use Rattle.kdcd.specs.declared.line.LineChange.TheVariants.{Add, NewKeys, DropKeys, Remove, Set}
use Rattle.text_fields.specs.declared.settings.Setting.{Setting}
use Rattle.text_fields.specs.Numbers.{IsU32Text}
use Rattle.text_fields.specs.Settings.{IsSettingText}
use Rattle.kdcd.specs.Field.{IsMomentText, AreLimitsTexts, IsOctetsText, IsKeysText}

-- a name with name-type 1 (NT-PRINCIPAL), or none if the text is not a name
abbrev pub IsNameTextOrNone : Option Name → List ℕ → Type 0
IsNameTextOrNone (Some name) text = IsNameText name.components text × (name.name_type ≡ NT_PRINCIPAL)
IsNameTextOrNone None text = (name : Components) → ¬ IsNameText name text

abbrev pub change_word : LineChange → List ℕ
change_word (Add keys) = codes "add"
change_word (NewKeys keys) = codes "keys"
change_word (DropKeys version) = codes "drop"
change_word Remove = codes "remove"
change_word (Set setting) = codes "policy"

-- the word that says what a line does
abbrev pub word_of : Line → List ℕ
word_of (Open realm limits keys) = codes "open"
word_of (Change name what) = change_word what
word_of (Request request) = codes "request"
word_of (Restart at) = codes "restart"

-- the fields after it
abbrev pub AreOpenFields : List ℕ → Limits → List Key → List (List ℕ) → Type 0
AreOpenFields realm limits keys
    (realm_text ∷ remembered ∷ lock_after ∷ lock_seconds ∷ life ∷ renewable ∷ keys_text ∷ []) =
    IsComponentText realm realm_text
    × AreLimitsTexts limits (remembered ∷ lock_after ∷ lock_seconds ∷ life ∷ renewable ∷ [])
    × IsKeysText keys keys_text
AreOpenFields realm limits keys texts = ⊥

abbrev pub AreKeysFields : Option Name → List Key → List (List ℕ) → Type 0
AreKeysFields name keys (name_text ∷ keys_text ∷ []) = IsNameTextOrNone name name_text × IsKeysText keys keys_text
AreKeysFields name keys texts = ⊥

abbrev pub AreDropFields : Option Name → ℕ → List (List ℕ) → Type 0
AreDropFields name version (name_text ∷ version_text ∷ []) =
    IsNameTextOrNone name name_text × IsU32Text version version_text
AreDropFields name version texts = ⊥

abbrev pub AreRemoveFields : Option Name → List (List ℕ) → Type 0
AreRemoveFields name (name_text ∷ []) = IsNameTextOrNone name name_text
AreRemoveFields name texts = ⊥

abbrev pub ArePolicyFields : Option Name → Setting → List (List ℕ) → Type 0
ArePolicyFields name setting (name_text ∷ setting_text ∷ []) =
    IsNameTextOrNone name name_text × IsSettingText setting setting_text
ArePolicyFields name setting texts = ⊥

abbrev pub AreChangeFields : Option Name → LineChange → List (List ℕ) → Type 0
AreChangeFields name (Add keys) texts = AreKeysFields name keys texts
AreChangeFields name (NewKeys keys) texts = AreKeysFields name keys texts
AreChangeFields name (DropKeys version) texts = AreDropFields name version texts
AreChangeFields name Remove texts = AreRemoveFields name texts
AreChangeFields name (Set setting) texts = ArePolicyFields name setting texts

abbrev pub AreRequestFields : LineRequest → List (List ℕ) → Type 0
AreRequestFields request (sec ∷ usec ∷ random ∷ room ∷ octets ∷ []) =
    IsMomentText request.at sec usec × (decode_sized random 64 ≡ Ok request.random) × IsU32Text request.room room
    × IsOctetsText request.octets.items octets
AreRequestFields request texts = ⊥

-- a whole second
abbrev pub AreRestartFields : Moment → List (List ℕ) → Type 0
AreRestartFields at (sec ∷ []) = IsMomentText at sec (codes "0")
AreRestartFields at texts = ⊥

abbrev pub AreFields : Line → List (List ℕ) → Type 0
AreFields (Open realm limits keys) texts = AreOpenFields realm limits keys texts
AreFields (Change name what) texts = AreChangeFields name what texts
AreFields (Request request) texts = AreRequestFields request texts
AreFields (Restart at) texts = AreRestartFields at texts

-- a line's fields: its word, and those after it
abbrev pub AreLineFields : Line → List (List ℕ) → Type 0
AreLineFields line [] = ⊥
AreLineFields line (word ∷ texts) = (word ≡ word_of line) × AreFields line texts

-- a line is ASCII text, and spaces (20) separate its fields
pub record IsLineText (line : Line) (text : List ℕ) : Type 0 where
  pub ascii : All (λ o. o < 128) text
  pub fields : AreLineFields line (slice_split (λ o. o == 0x20) text)
