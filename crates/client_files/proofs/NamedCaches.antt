-- The path of the cache that a krb5.conf names.
use Rattle.std.proofs.Common.{◌≡◌, ℕ, List, Option, Some, subst}
use Rattle.client_files.specs.CachePaths.{IsExpanded, IsSettingCache, path_in}

pub named_cache : (user : ℕ) (found : Option (List ℕ)) (name there path : List ℕ) → Some name ≡ found
    → there ≡ path_in name → IsExpanded user there path → IsSettingCache user found path
named_cache user found name there path is at expanded =
    subst (λ f. IsSettingCache user f path) is (subst (λ t. IsExpanded user t path) at expanded)
