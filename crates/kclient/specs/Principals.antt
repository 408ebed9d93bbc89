-- The client that the words of `kinit` name, and the tickets of the services that those of `kvno` name.
use Rattle.std.specs.Prelude.{◌≡◌, ◌⊎◌, ℕ, ℤ, true, List, [], ◌∷◌, Option, Some, None}
use Rattle.client_core.specs.Taken.{AreSame}
use Rattle.client_files.specs.Caches.{HasCache}
use Rattle.client_files.specs.Configs.{IsDefaultRealm}
use Rattle.client_files.specs.Holding.{is_good}
use Rattle.client_files.specs.declared.host.FoundConfig.TheVariants.{Read}
use Rattle.client_files.specs.declared.host.Host.{Host}
use Rattle.cred_files.specs.Cache.{CacheContents}
use Rattle.cred_files.specs.declared.credential.Credential.{Credential}
use Rattle.cred_files.specs.declared.principal.Principal.{Principal}
use Rattle.file_store.specs.World.{World}
use Rattle.file_store.specs.declared.variable.Variable.{Variable}
use Rattle.file_store.specs.declared.variable.Variable.TheVariants as variables
use Rattle.krb_fields.specs.Name.{Components}
use Rattle.krb_fields.specs.NameText.{IsComponentText, IsNameText}
use Rattle.command_line.specs.Values.{Text}
use Rattle.kclient.specs.Words.{name_in, realm_in}

-- ---- the client of `kinit`

-- the default realm of the krb5.conf that was read
pub record IsHostRealm (host : Host) (realm : List ℕ) : Type 0 where
  pub config : List ℕ
  pub read : host.config ≡ Read config
  pub default : IsDefaultRealm config realm

-- the realm that a word spells, or else the default one
abbrev pub IsRealmNamed : Option Text → Host → List ℕ → Type 0
IsRealmNamed (Some text) host realm = IsComponentText realm text
IsRealmNamed None host realm = IsHostRealm host realm

-- the cache at the path is this principal's
pub record IsCached (world : Option World) (path : List ℕ) (principal : Principal) : Type 0 where
  pub cache : CacheContents
  pub held : HasCache world path cache
  pub owner : principal ≡ cache.principal

-- the name under which the user logged in to the computer
abbrev pub IsUserName : Variable → Components → Type 0
IsUserName variables.Absent name = ⊥
IsUserName variables.NotUtf8 name = ⊥
IsUserName (variables.Text text) name = IsNameText name text.now

abbrev pub IsUser : Host → Principal → Type 0
IsUser host principal = IsUserName host.defaults.user principal.name.components × IsHostRealm host principal.realm

-- by a name and a realm
abbrev pub IsPrincipal : Text → Option Text → Host → Principal → Type 0
IsPrincipal name realm host principal =
    IsNameText principal.name.components name × IsRealmNamed realm host principal.realm

-- the client that the words name, or else the principal of the cache at the path, or else the user
abbrev pub IsClientNamed : List Text → Option Text → Host → Option World → List ℕ → Principal → Type 0
IsClientNamed [] realm host before path principal = IsCached before path principal ⊎ IsUser host principal
IsClientNamed (word ∷ []) realm host before path principal =
    IsPrincipal (name_in word) (realm_in word realm) host principal
IsClientNamed (word ∷ other ∷ others) realm host before path principal = ⊥

-- a first ticket of that client, for a cache at the path
pub record IsFirstOf (IsFirst : Credential → Type 0) (names : List Text) (realm : Option Text) (host : Host)
    (before : Option World) (path : List ℕ) (ticket : Credential) : Type 0 where
  pub first : IsFirst ticket
  pub client : Principal
  pub named : IsClientNamed names realm host before path client
  pub own : AreSame ticket.client.realm ticket.client.name client.realm client.name

-- ---- the services of `kvno`

-- it is for a service of this name, and came, or can still be used at this second
abbrev pub IsTicketFor : (Credential → Type 0) → ℤ → Components → Credential → Type 0
IsTicketFor IsReceived now service ticket =
    (ticket.server.name.components ≡ service) × (IsReceived ticket ⊎ (is_good now ticket ≡ true))

-- one of these is
abbrev pub HasTicket : (Credential → Type 0) → ℤ → Components → List Credential → Type 0
HasTicket IsReceived now service [] = ⊥
HasTicket IsReceived now service (ticket ∷ tickets) =
    IsTicketFor IsReceived now service ticket ⊎ HasTicket IsReceived now service tickets

-- one of these is for the service that the word names
pub record IsServed (IsReceived : Credential → Type 0) (now : ℤ) (tickets : List Credential)
    (word : Text) : Type 0 where
  pub service : Components
  pub spelled : IsNameText service (name_in word)
  pub has : HasTicket IsReceived now service tickets
