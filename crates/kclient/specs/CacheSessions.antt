-- The tickets that a session collects.
use Rattle.std.specs.Prelude.{◌≡◌, ◌⊎◌, ℕ, ℤ, false, List, Option, option_map}
use Rattle.std.specs.List.{All}
use Rattle.cred_files.specs.Cache.{CacheContents, cache_text}
use Rattle.cred_files.specs.declared.credential.Credential.{Credential}
use Rattle.file_store.specs.World.{World, with_file}
use Rattle.krb_fields.specs.Name.{Components}
use Rattle.krb_fields.specs.NameText.{IsNameText}
use Rattle.std.specs.String.{string_bytes}
use Rattle.kclient.specs.Principals.{HasTicket}
use Rattle.kclient.specs.Words.{name_in}
use Rattle.kclient.specs.Worlds.{IsLeft, with_tickets}
use Rattle.kclient.specs.declared.kvno.CacheSession.{CacheSession}
use Rattle.kclient.specs.declared.kvno.Service.{Service}

-- its cache has tickets that came since, and is at the same path
pub record Collected (IsReceived : Credential → Type 0) (before after : CacheSession) : Type 0 where
  pub tickets : List Credential
  pub came : All IsReceived tickets
  pub cache : after.cache ≡ with_tickets tickets before.cache
  pub path : after.path ≡ before.path
  -- a cache that is not to be written is the one before
  pub kept : after.is_changed ≡ false → (before.is_changed ≡ false) × (after.cache ≡ before.cache)

-- the path of a session has its cache, or the cache was not changed
abbrev pub IsWritten : CacheSession → Option World → Option World → Type 0
IsWritten session before after =
    ((session.is_changed ≡ false) × (after ≡ before))
    ⊎ (after ≡ option_map (with_file (string_bytes session.path) (cache_text session.cache)) before)

-- its name is the one that its word spells
abbrev pub IsSpelled : Service → Type 0
IsSpelled service = IsNameText service.name.components (name_in (string_bytes service.word))

-- one of these tickets is for a service of this name, and can still be used
abbrev pub IsGoodIn : ℤ → List Credential → Components → Type 0
IsGoodIn now tickets service = HasTicket (λ ticket. ⊥) now service tickets

-- one of these tickets is for the service
abbrev pub IsHeld : (Credential → Type 0) → ℤ → List Credential → Service → Type 0
IsHeld IsReceived now tickets service = HasTicket IsReceived now service.name.components tickets

-- a path has this cache with tickets that came, and in it is one for each service
pub record Answered (IsReceived : Credential → Type 0) (now : ℤ) (services : List Service) (path : List ℕ)
    (cache : CacheContents) (before after : Option World) : Type 0 where
  pub tickets : List Credential
  pub came : All IsReceived tickets
  pub left : IsLeft path cache (with_tickets tickets cache) before after
  pub held : All (IsHeld IsReceived now (with_tickets tickets cache).credentials) services
