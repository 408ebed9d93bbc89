-- What came of KDCs in a command, and the effect of the command on the files.
use Rattle.std.specs.Prelude.{◌≡◌, ◌⊎◌, ℕ, ℤ, List, [], ◌∷◌, Option, Some, option_map}
use Rattle.std.specs.List.{All}
use Rattle.std.specs.declared.net.socket_addr.SocketAddr.{SocketAddr}
use Rattle.cred_files.specs.Cache.{CacheContents, cache_text, put_first}
use Rattle.cred_files.specs.declared.credential.Credential.{Credential}
use Rattle.file_store.specs.World.{World, with_file, without_file}
use Rattle.client_core.specs.declared.asked.Asked.{Asked}
use Rattle.client_files.specs.Caches.{HasCache, new_cache}
use Rattle.client_files.specs.Holding.{granting_credential}
use Rattle.client_login.specs.Logins.{IsFirst, IsFurther}
use Rattle.client_login.specs.Replies.{IsExchanged}
use Rattle.client_login.specs.declared.kdc_places.KdcPlace.{KdcPlace}
use Rattle.client_login.specs.declared.secrets.Secret.{Secret}
use Rattle.kclient.specs.Principals.{IsServed}
use Rattle.command_line.specs.Values.{Text}

-- ---- the tickets that came

-- a first ticket, of the reply of a KDC at some places to a request, under a key of the client
pub record CameFirst (finds : List ℕ → ℕ → SocketAddr → Type 0) (carries : List ℕ → Type 0)
    (answers : SocketAddr → List ℕ → List ℕ → Type 0) (credential : Credential) : Type 0 where
  pub places : List KdcPlace
  pub secret : Secret
  pub asked : Asked
  pub now : ℤ
  pub first : IsFirst (IsExchanged finds places carries answers) secret asked now credential

-- a further ticket, of the reply of a KDC at some places, under the session key of the ticket that was presented
pub record CameFurther (finds : List ℕ → ℕ → SocketAddr → Type 0) (carries : List ℕ → Type 0)
    (answers : SocketAddr → List ℕ → List ℕ → Type 0) (granting credential : Credential) : Type 0 where
  pub places : List KdcPlace
  pub asked : Asked
  pub now : ℤ
  pub further : IsFurther (IsExchanged finds places carries answers) granting asked now credential

-- one that came by some ticket
pub record IsGranted (IsFurther : Credential → Credential → Type 0) (credential : Credential) : Type 0 where
  pub granting : Credential
  pub came : IsFurther granting credential

-- one that came by the ticket-granting ticket of the cache at the path
pub record IsRenewed (IsFurther : Credential → Credential → Type 0) (before : Option World) (path : List ℕ)
    (credential : Credential) : Type 0 where
  pub cache : CacheContents
  pub held : HasCache before path cache
  pub granting : Credential
  pub found : granting_credential cache ≡ Some granting
  pub came : IsFurther granting credential

-- ---- the effect of each command, from the world before it to the one after it. `IsPath` says which path it works on

-- the path has a new cache of one ticket that came for it, and every other path is unchanged
pub record Made (IsReceived : List ℕ → Credential → Type 0) (IsPath : List ℕ → Type 0) (before after : Option World)
    : Type 0 where
  pub path : List ℕ
  pub named : IsPath path
  pub ticket : Credential
  pub came : IsReceived path ticket
  pub written : after ≡ option_map (with_file path (cache_text (new_cache ticket))) before

-- each of these tickets in place of the first one of the same service, else at the end
abbrev pub with_tickets : List Credential → CacheContents → CacheContents
with_tickets [] cache = cache
with_tickets (ticket ∷ tickets) cache =
    with_tickets tickets (record cache { credentials = put_first ticket cache.credentials })

-- a path has this cache with tickets that came, and every other path is unchanged
pub record Added (IsReceived : Credential → Type 0) (path : List ℕ) (cache : CacheContents)
    (before after : Option World) : Type 0 where
  pub tickets : List Credential
  pub came : All IsReceived tickets
  pub written : after ≡ option_map (with_file path (cache_text (with_tickets tickets cache))) before

-- the path has the cache that it had, with tickets that came
pub record Filled (IsReceived : Credential → Type 0) (IsPath : List ℕ → Type 0) (before after : Option World)
    : Type 0 where
  pub path : List ℕ
  pub named : IsPath path
  pub cache : CacheContents
  pub held : HasCache before path cache
  pub added : Added IsReceived path cache before after

-- the path has this cache in place of the one before, and every other path is unchanged
abbrev pub IsLeft : List ℕ → CacheContents → CacheContents → Option World → Option World → Type 0
IsLeft path cache last before after =
    ((last ≡ cache) × (after ≡ before)) ⊎ (after ≡ option_map (with_file path (cache_text last)) before)

-- the path has the cache that it had, with tickets that came, and in it is a ticket for the service of each name: one
-- that came, or that can still be used
pub record Served (IsReceived : Credential → Type 0) (now : ℤ) (names : List Text) (IsPath : List ℕ → Type 0)
    (before after : Option World) : Type 0 where
  pub path : List ℕ
  pub named : IsPath path
  pub cache : CacheContents
  pub held : HasCache before path cache
  pub tickets : List Credential
  pub came : All IsReceived tickets
  pub left : IsLeft path cache (with_tickets tickets cache) before after
  pub served : All (IsServed IsReceived now (with_tickets tickets cache).credentials) names

-- the path has no file, and every other path is unchanged
pub record Removed (IsPath : List ℕ → Type 0) (before after : Option World) : Type 0 where
  pub path : List ℕ
  pub named : IsPath path
  pub removed : after ≡ option_map (without_file path) before
