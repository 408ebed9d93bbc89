-- The client that words give, from how they are read.
use Rattle.std.proofs.Common.{◌≡◌, ◌∙◌, ◌≤◌, ℕ, List, [], ◌∷◌, Option, Some, None, Result, Ok, Err, Bool, true, false}
use Rattle.std.proofs.Common.{ap, arith, length, refl, slice_get, subst, sym, inl, inr}
use Rattle.std.specs.Prelude.{◌⊎◌, IfOk}
use Rattle.std.specs.Borrow.{Bor}
use Rattle.client_files.specs.Caches.{HasCache}
use Rattle.client_files.specs.declared.host.FoundConfig.TheVariants.{Read}
use Rattle.client_files.specs.declared.host.Host.{Host}
use Rattle.client_login.specs.declared.ticket_requests.Login.{Login}
use Rattle.cred_files.specs.Cache.{CacheContents}
use Rattle.cred_files.specs.declared.principal.Principal.{Principal}
use Rattle.file_store.specs.World.{World}
use Rattle.krb_fields.specs.NameText.{IsComponentText, IsNameText}
use Rattle.kclient.specs.Given.{AreClientWords, IsClientFound, IsClientOf, IsGiven, IsRealmFound, IsRealmOf, IsRealmRead}
use Rattle.kclient.specs.Principals.{IsCached, IsClientNamed, IsHostRealm, IsRealmNamed, IsUser}
use Rattle.command_line.specs.Values.{Text, texts}
use Rattle.kclient.specs.Words.{listed, name_in, realm_in, text_of}
use Rattle.kclient.specs.declared.kinit.GivenClient.{GivenClient}
use Rattle.kclient.specs.declared.words.ClientWords.{ClientWords}

-- ---- the words for a client

-- of at most one name the first is all
pub only_listed : (names : List (Bor Text)) (found : Option (Bor Text)) → length names ≤ 1
    → found ≡ slice_get names 0 → listed (text_of found) ≡ texts names
only_listed [] found few is = ap (λ f. listed (text_of f)) is
only_listed (name ∷ []) found few is = ap (λ f. listed (text_of f)) is
only_listed (name ∷ other ∷ others) found few is = absurd (omega (arith, few))

pub no_words : (names : List Text) (realm : Option Text) (found : Option (Bor Text)) (words : Option ClientWords)
    → listed (text_of found) ≡ names → found ≡ None → words ≡ None → AreClientWords names realm words
no_words names realm found words are none is =
    subst (λ w. AreClientWords names realm w) (sym is) (sym are ∙ ap (λ f. listed (text_of f)) none)

pub some_words : (names : List Text) (realm : Option Text) (found : Option (Bor Text)) (given : Bor Text) (words : ClientWords)
    → listed (text_of found) ≡ names → found ≡ Some given → words.given.now ≡ given.now
    → words.name.now ≡ name_in given.now → text_of words.realm ≡ realm_in given.now realm
    → AreClientWords names realm (Some words)
some_words names realm found given words are there is name realm_is = (
  sym are ∙ ap (λ f. listed (text_of f)) there ∙ ap (λ text. text ∷ []) (sym is),
  name ∙ ap name_in (sym is),
  realm_is ∙ ap (λ text. realm_in text realm) (sym is),
)

-- ---- its realm

pub found_realm : (given : Option (List ℕ)) (host : Host) (config realm : List ℕ) → host.config ≡ Read config
    → IsRealmOf given config realm → IsRealmFound given host realm
found_realm (Some given) host config realm read is = is
found_realm None host config realm read is = record { config = config; read = read; default = is }

named_realm : (text : Option Text) (given : Option (List ℕ)) (host : Host) (realm : List ℕ) → IsRealmRead text given
    → IsRealmFound given host realm → IsRealmNamed text host realm
named_realm None None host realm read is = is
named_realm None (Some given) host realm read is = absurd read
named_realm (Some text) None host realm read is = absurd read
named_realm (Some text) (Some given) host realm read is = subst (λ r. IsComponentText r text) (sym is) read

-- ---- the client

pub cached : (world : Option World) (path : List ℕ) (host : Host) (cache : CacheContents) (principal : Principal)
    → HasCache world path cache → principal ≡ cache.principal → IsCached world path principal ⊎ IsUser host principal
cached world path host cache principal held is = inl (record { cache = cache; held = held; owner = is })

client_of : (words : Option ClientWords) (given : Option GivenClient) (host : Host) (before : Option World)
    (path : List ℕ) (client : Principal) → IsGiven words given → IsClientFound given host before path client
    → IsClientOf words host before path client
client_of None None host before path client gives found = found
client_of None (Some given) host before path client gives found = absurd gives
client_of (Some words) None host before path client gives found = absurd gives
client_of (Some words) (Some given) host before path client gives found = (
  subst (λ name. IsNameText name.components words.name.now) (sym found.0) gives.0,
  named_realm (text_of words.realm) given.realm host client.realm gives.1 found.1,
)

pub user_found : {E : Type 0} (result : Result Principal E) (world : Option World) (path : List ℕ) (host : Host)
    → IfOk result (λ principal. IsUser host principal)
    → IfOk result (λ principal. IsCached world path principal ⊎ IsUser host principal)
user_found (Ok principal) world path host is = inr is
user_found (Err fault) world path host is = tt

pub login_for : {E : Type 0} (result : Result Login E) (words : Option ClientWords) (given : Option GivenClient)
    (host : Host) (before : Option World) (path : List ℕ) (client : Principal)
    → IfOk result (λ login. login.client ≡ client) → IsGiven words given
    → IsClientFound given host before path client
    → IfOk result (λ login. IsClientOf words host before path login.client)
login_for (Ok login) words given host before path client is gives found =
    subst (λ (c : Principal). IsClientOf words host before path c) (sym is)
    (client_of words given host before path client gives found)
login_for (Err fault) words given host before path client is gives found = tt

pub client_named : (names : List Text) (realm : Option Text) (words : Option ClientWords) (host : Host)
    (before : Option World) (path : List ℕ) (client : Principal) → AreClientWords names realm words
    → IsClientOf words host before path client → IsClientNamed names realm host before path client
client_named names realm None host before path client are is =
    subst (λ n. IsClientNamed n realm host before path client) (sym are) is
client_named names realm (Some words) host before path client are is =
    subst (λ n. IsClientNamed n realm host before path client) (sym are.0) (
      subst (λ text. IsNameText client.name.components text) are.1 is.0,
      subst (λ text. IsRealmNamed text host client.realm) are.2 is.1,
    )
