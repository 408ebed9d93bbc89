-- What a login gives, of the state before it, whose fields were read.
use Rattle.std.proofs.Common.{◌≡◌, ◌∙◌, ℕ, ℤ, List, Option, Some, ap, refl, subst, sym}
use Rattle.std.specs.declared.net.socket_addr.SocketAddr.{SocketAddr}
use Rattle.client_files.specs.Clocks.{IsShown}
use Rattle.client_login.specs.Draws.{drawn_nonce}
use Rattle.client_login.specs.Logins.{IsFirst, logs_in}
use Rattle.client_login.specs.Replies.{IsExchanged}
use Rattle.client_login.specs.declared.kdc_places.KdcPlace.{KdcPlace}
use Rattle.client_login.specs.declared.secrets.Secret.{Secret}
use Rattle.client_login.specs.declared.ticket_requests.Login.{Login}
use Rattle.client_sockets.specs.Clients.{ClientState, IsLoggedIn, bytes_from, login_of}
use Rattle.cred_files.specs.declared.credential.Credential.{Credential}
use Rattle.krb_fields.specs.Granting.{tgs_name}
use Rattle.krb_fields.specs.PrincipalName.{Name}
use Rattle.krb_fields.specs.declared.moment.Moment.{Moment}
use Rattle.file_store.specs.World.{World}

same_login : (login : Login) → login.service ≡ tgs_name login.client.realm → login ≡ login_of login.client login.request
same_login login e = ap (λ (s : Name). record { client = login.client; service = s; request = login.request }) e

module _ {S : Type 0} (world : S → Option World) (finds : List ℕ → ℕ → SocketAddr → Type 0) (carries : List ℕ → Type 0)
    (answers : SocketAddr → List ℕ → List ℕ → Type 0) (state client : ClientState S) (view : state ≡ client)
    (login : Login) (secret : Secret) (at : Moment) (ticket : Credential) (places : List KdcPlace) (sec : ℤ) where
  pub logged_in : state.principal ≡ login.client → state.request ≡ login.request
      → login.service ≡ tgs_name login.client.realm → IsShown (world state.store) at → places ≡ state.places
      → sec ≡ at.sec → IsFirst (IsExchanged finds places carries answers) secret
      (logs_in login secret sec (drawn_nonce (bytes_from state.generator))) sec ticket
      → IsLoggedIn (IsExchanged finds client.places carries answers) (world client.store) secret client (Some ticket)
  logged_in named asked service shown there then first =
      subst (λ (c : ClientState S). IsLoggedIn (IsExchanged finds c.places carries answers) (world c.store) secret c (Some ticket)) view (record {
        at = at;
        shown = shown;
        ticket = ticket;
        has = refl;
        first = subst (λ (l : Login). IsFirst (IsExchanged finds state.places carries answers) secret
            (logs_in l secret at.sec (drawn_nonce (bytes_from state.generator))) at.sec ticket)
            (same_login login service ∙ ap (λ p. login_of p login.request) (sym named)
            ∙ ap (λ r. login_of state.principal r) (sym asked))
            (subst (λ (p : List KdcPlace). IsFirst (IsExchanged finds p carries answers) secret
            (logs_in login secret at.sec (drawn_nonce (bytes_from state.generator))) at.sec ticket) there
            (subst (λ (n : ℤ). IsFirst (IsExchanged finds places carries answers) secret
            (logs_in login secret n (drawn_nonce (bytes_from state.generator))) n ticket) then first));
      })
