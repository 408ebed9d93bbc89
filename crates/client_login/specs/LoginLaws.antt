-- A network that takes any message takes those of a login.
use Rattle.std.specs.Prelude.{ℕ, List}
use Rattle.client_core.specs.declared.asked.Asked.{Asked}
use Rattle.cred_files.specs.declared.credential.Credential.{Credential}
use Rattle.krb_fields.specs.declared.moment.Moment.{Moment}
use Rattle.rand_core.specs.Stream.{Stream}
use Rattle.client_login.specs.Logins.{CarriesFirst, CarriesPresented}
use Rattle.client_login.specs.declared.secrets.Secret.{Secret}

pub carries_first : (carries : List ℕ → Type 0) (secret : Secret) (asked : Asked) (at : Moment) (random : Stream)
    → ((message : List ℕ) → carries message) → CarriesFirst carries secret asked at random
carries_first carries secret asked at random any =
    record { plain = any _; stamped = λ key own. any _; again = λ key next own is. any _ }

pub carries_presented : (carries : List ℕ → Type 0) (granting : Credential) (asked : Asked) (at : Moment) (random : Stream)
    → ((message : List ℕ) → carries message) → CarriesPresented carries granting asked at random
carries_presented carries granting asked at random any =
    record { presented = λ held is. any _; again = λ held next is follows. any _ }
