-- The files of caches.
use Rattle.std.specs.Prelude.{ℕ, List, [], ◌∷◌, Option}
use Rattle.cred_files.specs.Cache.{CacheContents, IsCache}
use Rattle.cred_files.specs.declared.credential.Credential.{Credential}
use Rattle.file_store.specs.World.{World, IsRead}

-- the cache that `kinit` makes: of the credential's client, with only this credential
abbrev pub new_cache : Credential → CacheContents
new_cache credential = record { header = []; principal = credential.client; credentials = credential ∷ [] }

-- the file at a path holds this cache
abbrev pub HasCache : Option World → List ℕ → CacheContents → Type 0
HasCache world path cache = (octets : List ℕ) × IsRead world path octets × IsCache cache octets
