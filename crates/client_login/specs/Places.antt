-- The KDCs of a realm, at their places.
use Rattle.std.specs.Prelude.{◌≡◌, ℕ, Bool, true, false, List, [], ◌∷◌}
use Rattle.std.specs.List.{Contains}
use Rattle.std.specs.String.{string_bytes}
use Rattle.std.specs.declared.net.socket_addr.SocketAddr.{SocketAddr}
use Rattle.client_login.specs.declared.kdc_places.KdcPlace.{KdcPlace}

-- A KDC is at an address of its place. Before the place's host is looked up, it is at one that the network finds.
abbrev pub is_at : (List ℕ → ℕ → SocketAddr → Type 0) → Bool → KdcPlace → SocketAddr → Type 0
is_at finds true place kdc = Contains place.addresses.items kdc
is_at finds false place kdc = finds (string_bytes place.host) place.port kdc

abbrev pub IsAt : (List ℕ → ℕ → SocketAddr → Type 0) → KdcPlace → SocketAddr → Type 0
IsAt finds place kdc = is_at finds place.is_looked_up place kdc

-- it is at one of these places
pub record IsKdc (finds : List ℕ → ℕ → SocketAddr → Type 0) (places : List KdcPlace) (kdc : SocketAddr) : Type 0 where
  pub place : KdcPlace
  pub listed : Contains places place
  pub at : IsAt finds place kdc

-- each KDC at the later place is at the earlier one
pub record IsWithin (finds : List ℕ → ℕ → SocketAddr → Type 0) (before after : KdcPlace) : Type 0 where
  pub at : (kdc : SocketAddr) → IsAt finds after kdc → IsAt finds before kdc

-- each KDC at the later places is at one of the earlier ones
pub record AreWithin (finds : List ℕ → ℕ → SocketAddr → Type 0) (before after : List KdcPlace) : Type 0 where
  pub at : (kdc : SocketAddr) → IsKdc finds after kdc → IsKdc finds before kdc

-- a place at this address alone
pub record IsAddress (address : SocketAddr) (place : KdcPlace) : Type 0 where
  pub known : place.is_looked_up ≡ true
  pub only : place.addresses.items ≡ address ∷ []

-- a place at a host that has not been looked up
pub record IsHost (host : List ℕ) (port : ℕ) (place : KdcPlace) : Type 0 where
  pub unknown : place.is_looked_up ≡ false
  pub named : string_bytes place.host ≡ host
  pub on_port : place.port ≡ port
