-- A client as its caller sees it, and what its calls give.
use Rattle.std.specs.Prelude.{◌≡◌, ◌≢◌, ℕ, List, Option, Some}
use Rattle.std.specs.List.{Contains}
use Rattle.std.specs.declared.net.socket_addr.SocketAddr.{SocketAddr}
use Rattle.rand_core.specs.Steps.{stream_of, steps_u32}
use Rattle.rand_core.specs.Stream.{Stream}
use Rattle.rand_chacha.specs.ChaCha.{ChaCha, next_word, of_seed}
use Rattle.cred_files.specs.declared.credential.Credential.{Credential}
use Rattle.cred_files.specs.declared.keytab_entry.KeytabEntry.{KeytabEntry}
use Rattle.cred_files.specs.declared.principal.Principal.{Principal}
use Rattle.krb_fields.specs.Granting.{tgs_name}
use Rattle.krb_fields.specs.NameText.{IsNameText}
use Rattle.krb_fields.specs.PrincipalName.{Name}
use Rattle.krb_fields.specs.declared.moment.Moment.{Moment}
use Rattle.file_store.specs.World.{World, IsDrawn}
use Rattle.client_files.specs.Clocks.{IsShown}
use Rattle.client_login.specs.Asking.{further_asked}
use Rattle.client_login.specs.Draws.{drawn_nonce}
use Rattle.client_login.specs.Logins.{IsFirst, IsFurther, logs_in}
use Rattle.client_login.specs.declared.kdc_places.KdcPlace.{KdcPlace}
use Rattle.client_login.specs.declared.secrets.Secret.{Secret}
use Rattle.client_login.specs.declared.ticket_requests.Login.{Login}
use Rattle.client_login.specs.declared.ticket_requests.TicketRequest.{TicketRequest}

-- S is the type of its store
pub record ClientState (S : Type 0) : Type 0 where
  pub principal : Principal
  -- what it asks of its ticket-granting ticket
  pub request : TicketRequest
  -- where the KDCs of its realm are
  pub places : List KdcPlace
  -- the generator of its random bytes
  pub generator : ChaCha
  -- the ticket-granting ticket of the last login
  pub tgt : Option Credential
  -- its files and its clock
  pub store : S

-- the random bytes of ChaCha with 20 rounds, from here on
abbrev pub bytes_from : ChaCha → Stream
bytes_from generator = stream_of (steps_u32 (next_word 10)) generator

-- a generator whose seed was drawn from the store's own source
abbrev pub IsSeeded : Option World → ChaCha → Type 0
IsSeeded world generator = (seed : List ℕ) × IsDrawn world seed × (generator ≡ of_seed seed)

-- the login for a ticket of the ticket-granting service of the principal's realm
abbrev pub login_of : Principal → TicketRequest → Login
login_of principal request =
    record { client = principal; service = tgs_name principal.realm; request = request }

-- The client has a ticket-granting ticket: a KDC's reply to the request with this principal and the nonce that this
-- login drew, under a key of this secret, at a moment of its clock.
pub record IsLoggedIn {S : Type 0} (answers : SocketAddr → List ℕ → List ℕ → Type 0) (world : Option World)
    (secret : Secret) (client : ClientState S) (tgt : Option Credential) : Type 0 where
  pub at : Moment
  pub shown : IsShown world at
  pub ticket : Credential
  pub has : tgt ≡ Some ticket
  pub first : IsFirst answers secret
      (logs_in (login_of client.principal client.request) secret at.sec
      (drawn_nonce (bytes_from client.generator))) at.sec ticket

-- A ticket for the service with this name: a KDC's reply to the request with the client's ticket-granting ticket and
-- the nonce that this call drew, at a moment of its clock.
pub record IsGranted {S : Type 0} (answers : SocketAddr → List ℕ → List ℕ → Type 0) (world : Option World)
    (client : ClientState S) (service : Name) (ticket : Credential) : Type 0 where
  pub at : Moment
  pub shown : IsShown world at
  pub tgt : Credential
  pub has : client.tgt ≡ Some tgt
  pub further : IsFurther answers tgt (further_asked 0 tgt.client service
      (drawn_nonce (bytes_from client.generator))) at.sec ticket

-- the same for the service that words spell, such as `host/www.example.com`
pub record IsGrantedFor {S : Type 0} (answers : SocketAddr → List ℕ → List ℕ → Type 0) (world : Option World)
    (client : ClientState S) (words : List ℕ) (ticket : Credential) : Type 0 where
  pub service : Name
  pub spelled : IsNameText service.components words
  pub granted : IsGranted answers world client service ticket

-- a service of the principal's realm that the keytab has a key of, and that is not the principal
pub record IsServiceIn (keytab : List KeytabEntry) (principal : Principal) (service : Name) : Type 0 where
  pub entry : KeytabEntry
  pub listed : Contains keytab entry
  pub realm : entry.realm ≡ principal.realm
  pub name : service ≡ entry.name
  pub other : service.components ≢ principal.name.components

-- a ticket for a service of the keytab
pub record IsGrantedIn {S : Type 0} (answers : SocketAddr → List ℕ → List ℕ → Type 0) (world : Option World)
    (client : ClientState S) (keytab : List KeytabEntry) (ticket : Credential) : Type 0 where
  pub service : Name
  pub listed : IsServiceIn keytab client.principal service
  pub granted : IsGranted answers world client service ticket
