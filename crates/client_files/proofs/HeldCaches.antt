-- A file that was read holds the cache in its bytes.
use Rattle.std.proofs.Common.{◌≡◌, ℕ, List, Option, subst}
use Rattle.client_files.specs.Caches.{HasCache}
use Rattle.cred_files.specs.Cache.{CacheContents, IsCache}
use Rattle.file_store.specs.World.{World, IsRead}

pub held : (before middle : Option World) (path octets : List ℕ) (cache : CacheContents) → middle ≡ before
    → IsRead middle path octets → IsCache cache octets → HasCache before path cache
held before middle path octets cache kept read is =
    (octets, subst (λ (world : Option World). IsRead world path octets) kept read, is)
