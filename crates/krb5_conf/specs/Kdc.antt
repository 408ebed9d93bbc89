-- The texts that name KDCs.
use Rattle.std.specs.Prelude.{◌==◌, ◌++◌, ◌⊎◌, ℕ, Bool, false, not, List, [], ◌∷◌, codes, filter}
use Rattle.std.specs.List.{list_any}
use Rattle.std.specs.declared.net.socket_addr.SocketAddr.{SocketAddr}
use Rattle.std.specs.Net.Grammar.{IsSocketText}

-- an address and a port, 88 by default
abbrev pub IsKdcText : List ℕ → SocketAddr → Type 0
IsKdcText text address = IsSocketText text address ⊎ IsSocketText (text ++ codes ":88") address

-- a value with a slash (2F), such as `tcp/192.0.2.1`, names a transport
abbrev pub is_other_way : List ℕ → Bool
is_other_way text = list_any (λ o. o == 0x2F) text

-- a value is the text of a KDC unless it is empty or names a transport
abbrev pub is_kdc_text : List ℕ → Bool
is_kdc_text [] = false
is_kdc_text (octet ∷ octets) = not (is_other_way (octet ∷ octets))

abbrev pub kdc_texts : List (List ℕ) → List (List ℕ)
kdc_texts values = filter is_kdc_text values
