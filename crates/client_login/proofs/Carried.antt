-- A network that takes the requests of a login takes the bytes of each, at both moments.
use Rattle.std.proofs.Common.{◌≡◌, ℕ, List, subst, sym}
use Rattle.std.specs.Prelude.{IfSome}
use Rattle.client_core.specs.Sessions.{IsPresentable, session}
use Rattle.client_core.specs.declared.asked.Asked.{Asked}
use Rattle.cred_files.specs.declared.credential.Credential.{Credential}
use Rattle.enctypes.specs.declared.key.Key.{Key}
use Rattle.krb_fields.specs.declared.moment.Moment.{Moment}
use Rattle.rand_core.specs.Stream.{Stream}
use Rattle.client_login.specs.Draws.{after_confounder, drawn_confounder}
use Rattle.client_login.specs.Keys.{IsOwnKey}
use Rattle.client_login.specs.Logins.{CarriesFirst, CarriesPresented, presented_request, stamped_request}
use Rattle.client_login.specs.Sending.{CarriesProof}
use Rattle.client_login.specs.declared.secrets.Secret.{Secret}
use Rattle.client_login.proofs.Takings.{takes}

pub carries_stamped : (carries : List ℕ → Type 0) (secret : Secret) (asked : Asked) (key : Key) (at : Moment)
    (random : Stream) → IsOwnKey secret asked.realm asked.client key → CarriesFirst carries secret asked at random
    → CarriesProof carries (λ at confounder octets. octets ≡ stamped_request asked key at confounder) at random
carries_stamped carries secret asked key at random own all = record {
  once = λ octets is. subst carries (sym is) (all.stamped key own);
  again = λ next octets later is. subst carries (sym is) (all.again key next own later);
}

pub carries_presented : (carries : List ℕ → Type 0) (granting : Credential) (asked : Asked) (at : Moment)
    (random : Stream) → IsPresentable granting → CarriesPresented carries granting asked at random
    → CarriesProof carries
    (λ at confounder octets. IfSome (session granting) (λ held. octets ≡ presented_request granting asked held at confounder))
    at random
carries_presented carries granting asked at random presentable all = record {
  once = λ octets is.
      takes carries granting asked at (drawn_confounder random) octets presentable all.presented is;
  again = λ next octets later is.
      takes carries granting asked next (drawn_confounder (after_confounder random)) octets presentable
      (λ held same. all.again held next same later) is;
}
