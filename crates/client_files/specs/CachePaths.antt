-- The path of a cache that a name or the environment gives.
use Rattle.std.specs.Prelude.{◌≡◌, ◌==◌, ◌<◌, ◌&&◌, ◌||◌, ◌++◌, ℕ, Bool, List, length, nat_lt, slice_get, take, drop}
use Rattle.std.specs.Prelude.{codes, decimal, bytes_eq}
use Rattle.std.specs.Prelude.{Option, Some, None, Result, Ok, Err, if◌then◌else◌}
use Rattle.std.specs.List.{after_first, before_first, position_or_len}
use Rattle.std.specs.Str.Pattern.{FindsText}
use Rattle.file_store.specs.declared.variable.Variable.{Variable}
use Rattle.file_store.specs.declared.variable.Variable.TheVariants as variables
use Rattle.krb5_conf.specs.Values.{library_values}
use Rattle.client_files.specs.declared.host.FoundConfig.{FoundConfig}
use Rattle.client_files.specs.declared.host.FoundConfig.TheVariants.{Read, Absent, Unread}
use Rattle.client_files.specs.declared.host.Host.{Host}

-- it begins with `FILE:` (3A is the colon)
abbrev pub is_file : List ℕ → Bool
is_file name =
    nat_lt (position_or_len (λ b. b == 0x3A) name) (length name)
    && bytes_eq (before_first (λ b. b == 0x3A) name) (codes "FILE")

-- what follows `FILE:`, or the whole name
abbrev pub path_in : List ℕ → List ℕ
path_in name = if is_file name then after_first (λ b. b == 0x3A) name else name

-- ---- the default one

-- the user's own, by the user's number
abbrev pub own_path : ℕ → List ℕ
own_path user = codes "/tmp/krb5cc_" ++ decimal user

-- what a token stands for: the user's number, or the folder of temporary files
abbrev pub token_text : ℕ → List ℕ → Option (List ℕ)
token_text user token =
    if bytes_eq token (codes "uid") || bytes_eq token (codes "euid") then Some (decimal user)
    else if bytes_eq token (codes "TEMP") then Some (codes "/tmp")
    else None

-- a token stands between `%{` and the next `}` (7D)
pub record HasToken (token after text : List ℕ) : Type 0 where
  pub closes : position_or_len (λ b. b == 0x7D) text < length text
  pub token_is : token ≡ before_first (λ b. b == 0x7D) text
  pub after_is : after ≡ after_first (λ b. b == 0x7D) text

-- the path of a name: from the first `%{` on, each token's text in place of the token
pub data IsExpanded (user : ℕ) : List ℕ → List ℕ → Type 0 where
  plain : (name : List ℕ) → FindsText (codes "%{") name None → IsExpanded user name name
  with_token : (name token text after rest : List ℕ) (i j : ℕ) → FindsText (codes "%{") name (Some (i, j))
      → HasToken token after (drop j name) → token_text user token ≡ Some text → IsExpanded user after rest
      → IsExpanded user name (take i name ++ text ++ rest)

-- by the value of `default_ccache_name`
abbrev pub IsSettingCache : ℕ → Option (List ℕ) → List ℕ → Type 0
IsSettingCache user None path = path ≡ own_path user
IsSettingCache user (Some name) path = IsExpanded user (path_in name) path

abbrev pub IsConfigCache : ℕ → FoundConfig → List ℕ → Type 0
IsConfigCache user (Read config) path =
    IsSettingCache user (slice_get (library_values (codes "default_ccache_name") config) 0) path
IsConfigCache user (Absent fault) path = path ≡ own_path user
IsConfigCache user (Unread fault) path = ⊥

-- the krb5.conf names it, or it is the user's own
abbrev pub IsOwnCache : {E : Type 0} → Result ℕ E → FoundConfig → List ℕ → Type 0
IsOwnCache (Ok user) config path = IsConfigCache user config path
IsOwnCache (Err error) config path = ⊥

-- by the variable of the environment, if there is one
abbrev pub IsCacheBy : Variable → Host → List ℕ → Type 0
IsCacheBy variables.Absent host path = IsOwnCache host.user host.config path
IsCacheBy variables.NotUtf8 host path = ⊥
IsCacheBy (variables.Text name) host path = path ≡ path_in name.now

abbrev pub IsDefaultCache : Host → List ℕ → Type 0
IsDefaultCache host path = IsCacheBy host.defaults.cache host path
