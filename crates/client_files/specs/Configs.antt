-- What the text of a krb5.conf says of a principal that words name, and of the KDCs of a realm.
use Rattle.std.specs.Prelude.{◌≡◌, ◌==◌, ◌<◌, ◌^◌, ◌⊎◌, ℕ, nat_lt, Bool, true, false, List, [], ◌∷◌, length, slice_get}
use Rattle.std.specs.Prelude.{Some}
use Rattle.std.specs.List.{after_first, before_first, position_or_len}
use Rattle.std.specs.Str.Parse.{IsNumeral, digits_value}
use Rattle.std.specs.declared.net.socket_addr.SocketAddr.{SocketAddr}
use Rattle.client_login.specs.Places.{IsAddress, IsHost}
use Rattle.client_login.specs.declared.kdc_places.KdcPlace.{KdcPlace}
use Rattle.cred_files.specs.declared.principal.Principal.{Principal}
use Rattle.krb_fields.specs.NameText.{IsComponentText, IsNameText, component_text}
use Rattle.krb5_conf.specs.Kdc.{IsKdcText, kdc_texts}
use Rattle.krb5_conf.specs.Values.{default_realms, kdc_values}

-- ---- a principal

abbrev pub IsDefaultRealm : List ℕ → List ℕ → Type 0
IsDefaultRealm config realm = slice_get (default_realms config) 0 ≡ Some realm

-- a realm follows the name, after an `@` (40)
abbrev pub has_realm : List ℕ → Bool
has_realm words = nat_lt (position_or_len (λ b. b == 0x40) words) (length words)

-- `alice@EXAMPLE.COM`, or `alice` of the default realm
abbrev pub IsNamedBy : Bool → List ℕ → List ℕ → Principal → Type 0
IsNamedBy true config words principal =
    IsNameText principal.name.components (before_first (λ b. b == 0x40) words)
    × IsComponentText principal.realm (after_first (λ b. b == 0x40) words)
IsNamedBy false config words principal =
    IsNameText principal.name.components words × IsDefaultRealm config principal.realm

abbrev pub IsNamed : List ℕ → List ℕ → Principal → Type 0
IsNamed config words principal = IsNamedBy (has_realm words) config words principal

-- ---- the KDCs of a realm

-- a port follows the host's name, after a `:` (3A)
pub record HasPort (text : List ℕ) : Type 0 where
  pub colon : nat_lt (position_or_len (λ b. b == 0x3A) text) (length text) ≡ true
  pub numeral : IsNumeral 10 (after_first (λ b. b == 0x3A) text)
  pub small : digits_value 10 (after_first (λ b. b == 0x3A) text) < 2 ^ 16

-- a host's name and its port, or the name alone: then the port is that of a KDC (RFC 4120, section 7.2.1)
abbrev pub IsHostText : List ℕ → List ℕ → ℕ → Type 0
IsHostText text host port =
    (HasPort text × (host ≡ before_first (λ b. b == 0x3A) text)
    × (port ≡ digits_value 10 (after_first (λ b. b == 0x3A) text)))
    ⊎ (¬ HasPort text × (host ≡ text) × (port ≡ 88))

-- what a host is called whose name is in these bytes; those that are not UTF-8 stand for themselves as text
abbrev pub IsShownAs : List ℕ → List ℕ → Type 0
IsShownAs octets text = (text ≡ octets) ⊎ (text ≡ component_text octets)

pub record IsHostPlace (octets : List ℕ) (place : KdcPlace) : Type 0 where
  pub text : List ℕ
  pub shown : IsShownAs octets text
  pub host : List ℕ
  pub port : ℕ
  pub named : IsHostText text host port
  pub is : IsHost host port place

pub record IsAddressPlace (octets : List ℕ) (place : KdcPlace) : Type 0 where
  pub address : SocketAddr
  pub named : IsKdcText octets address
  pub is : IsAddress address place

-- the place that a text names: an address and a port, or else a host
abbrev pub IsPlace : List ℕ → KdcPlace → Type 0
IsPlace octets place =
    IsAddressPlace octets place ⊎ (((address : SocketAddr) → ¬ IsKdcText octets address) × IsHostPlace octets place)

-- the places of these texts, in order
abbrev pub ArePlaces : List (List ℕ) → List KdcPlace → Type 0
ArePlaces [] [] = Unit {0}
ArePlaces [] (place ∷ places) = ⊥
ArePlaces (text ∷ texts) [] = ⊥
ArePlaces (text ∷ texts) (place ∷ places) = IsPlace text place × ArePlaces texts places

-- those of a realm's KDCs
abbrev pub ArePlacesOf : List ℕ → List ℕ → List KdcPlace → Type 0
ArePlacesOf config realm places = ArePlaces (kdc_texts (kdc_values realm config)) places
