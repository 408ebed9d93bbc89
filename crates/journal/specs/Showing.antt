-- The authenticators that a text still shows, if it is no whole journal.
use Rattle.std.specs.Prelude.{◌≡◌, ◌≤◌, ◌<◌, ◌+◌, ℕ, ℤ, pos, ◌+ℤ◌, List, [], ◌∷◌, ◌++◌, length, Option, Some, None}
use Rattle.krb_der.specs.Spelling.{tlv}
use Rattle.krb_elements.specs.Codec.{written}
use Rattle.journal.specs.Decision.{came, floor_since, greater}
use Rattle.journal.specs.Forms.{Entry, Header, entry, header}
use Rattle.journal.specs.Texts.{HasElement, HasHeader, checked}

-- ---- which entries are shown

-- An entry stands at a place of a text: its check follows from the 16 octets before the place.
pub record StandsAt (text : List ℕ) (place : ℕ) (e : Entry) : Type 0 where
  pub front : List ℕ
  pub before : List ℕ
  pub rest : List ℕ
  pub text_is : text ≡ (front ++ before) ++ (checked before (written entry e) ++ rest)
  pub place_is : length (front ++ before) ≡ place
  pub sixteen : length before ≡ 16
  pub has : HasElement e

-- none stands from a place on, up to another one
abbrev pub NoneBetween : List ℕ → ℕ → ℕ → Type 0
NoneBetween text from to = (place : ℕ) → from ≤ place → place < to → (e : Entry) → StandsAt text place e → ⊥

abbrev pub NoneFrom : List ℕ → ℕ → Type 0
NoneFrom text from = (place : ℕ) → from ≤ place → (e : Entry) → StandsAt text place e → ⊥

-- how many octets an element has, with its check
abbrev pub element_length : List ℕ → ℕ
element_length element = length (tlv 4 element) + 18

-- The entries from a place on: the first one there is, and those behind it. So what an entry has inside is none.
unfoldable pub AreFrom : List ℕ → ℕ → List Entry → Type 0
AreFrom text from [] = NoneFrom text from
AreFrom text from (e ∷ es) =
    (place : ℕ) × (from ≤ place) × NoneBetween text from place × StandsAt text place e
    × AreFrom text (place + element_length (written entry e)) es

-- ---- what a text shows

-- a header, and the octets behind it
pub record BeginsWith (text : List ℕ) (h : Header) : Type 0 where
  pub rest : List ℕ
  pub text_is : text ≡ checked h.link (written header h) ++ rest
  pub has : HasHeader h

-- the header at the front, if its check holds, and the entries behind it
pub record Shown : Type 0 where
  pub head : Option Header
  pub entries : List Entry

abbrev pub IsHead : List ℕ → Option Header → Type 0
IsHead text (Some h) = BeginsWith text h
IsHead text None = (h : Header) → BeginsWith text h → ⊥

abbrev pub behind_head : Option Header → ℕ
behind_head (Some h) = element_length (written header h)
behind_head None = 0

pub record Shows (text : List ℕ) (shown : Shown) : Type 0 where
  pub head : IsHead text shown.head
  pub entries : AreFrom text (behind_head shown.head) shown.entries

-- ---- the floor that it asks for

abbrev pub head_floor : Option Header → Option ℤ
head_floor None = None
head_floor (Some h) = Some (floor_since h.floor h.at)

abbrev pub entry_floor : Entry → ℤ
entry_floor e = floor_since (e.ctime +ℤ pos 1) (came e)

-- a floor above all of these entries too
abbrev pub floor_with : Option ℤ → List Entry → Option ℤ
floor_with floor [] = floor
floor_with floor (e ∷ es) = floor_with (greater floor (Some (entry_floor e))) es

abbrev pub shown_floor : Shown → Option ℤ
shown_floor shown = floor_with (head_floor shown.head) shown.entries
