-- Putting a credential into an empty cache.
use Rattle.std.proofs.Common.{◌≡◌, ◌∙◌, ap, List, ℕ, []}
use Rattle.cred_files.specs.Cache.{CacheContents, put_first}
use Rattle.cred_files.specs.declared.credential.Credential.{Credential}
use Rattle.client_files.specs.Caches.{new_cache}

abbrev empty_of : Credential → List ℕ → CacheContents
empty_of credential realm = record { header = []; principal = record { realm = realm; name = credential.client.name }; credentials = [] }

abbrev with_put : Credential → CacheContents → CacheContents
with_put credential cache = record cache { credentials = put_first credential cache.credentials }

pub made : (credential : Credential) (old new : CacheContents) (realm : List ℕ) → realm ≡ credential.client.realm
    → old ≡ record { header = []; principal = record { realm = realm; name = credential.client.name }; credentials = [] }
    → new ≡ record old { credentials = put_first credential old.credentials }
    → new ≡ new_cache credential
unfolding put_first
made credential old new realm realm_is old_is new_is =
    new_is ∙ ap (λ cache. with_put credential cache) old_is ∙ ap (λ r. with_put credential (empty_of credential r)) realm_is
