-- The cache that a first ticket makes.
use Rattle.std.proofs.Common.{◌≡◌, ◌∙◌, ℕ, List, Option, Result, Ok, Err, OnOk, option_map, ap, subst, sym}
use Rattle.client_core.specs.Taken.{AreSame}
use Rattle.client_files.specs.Caches.{new_cache}
use Rattle.client_files.specs.declared.host.Host.{Host}
use Rattle.cred_files.specs.Cache.{cache_text}
use Rattle.cred_files.specs.declared.credential.Credential.{Credential}
use Rattle.cred_files.specs.declared.principal.Principal.{Principal}
use Rattle.file_store.specs.World.{World, with_file}
use Rattle.kclient.specs.Given.{AreClientWords, IsClientOf}
use Rattle.kclient.specs.Principals.{IsFirstOf}
use Rattle.command_line.specs.Values.{Text}
use Rattle.kclient.specs.Worlds.{Made}
use Rattle.kclient.specs.declared.words.ClientWords.{ClientWords}
use Rattle.kclient.proofs.Giving.{client_named}

pub made_first : {A E : Type 0} (result : Result A E) (IsFirst : Credential → Type 0) (names : List Text)
    (realm : Option Text) (host : Host) (words : Option ClientWords) (IsPath : List ℕ → Type 0)
    (before came after : Option World) (path there : List ℕ) (client : Principal) (ticket : Credential)
    → OnOk result (after ≡ option_map (with_file there (cache_text (new_cache ticket))) came) → there ≡ path
    → IsFirst ticket → AreSame ticket.client.realm ticket.client.name client.realm client.name
    → AreClientWords names realm words → IsClientOf words host before path client → IsPath path → came ≡ before
    → OnOk result (Made (IsFirstOf IsFirst names realm host before) IsPath before after)
made_first (Ok x) IsFirst names realm host words IsPath before came after path there client ticket written at first own are is named kept =
    record {
      path = path;
      named = named;
      ticket = ticket;
      came = record {
        first = first;
        client = client;
        named = client_named names realm words host before path client are is;
        own = own;
      };
      written = written ∙ ap (λ p. option_map (with_file p (cache_text (new_cache ticket))) came) at
          ∙ ap (option_map (with_file path (cache_text (new_cache ticket)))) kept;
    }
made_first (Err fault) IsFirst names realm host words IsPath before came after path there client ticket written at first own are is named kept = tt
