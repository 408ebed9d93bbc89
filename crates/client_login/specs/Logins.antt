-- The messages that a client sends to log in and to get further tickets, and the credentials that it gets.
use Rattle.std.specs.Prelude.{◌≡◌, ℕ, ℤ, List, None, Some}
use Rattle.std.specs.declared.net.socket_addr.SocketAddr.{SocketAddr}
use Rattle.client_core.specs.Requests.{asks_as, asks_tgs, asks_with_timestamp}
use Rattle.client_core.specs.Sessions.{session, session_key}
use Rattle.client_core.specs.Taken.{IsTaken}
use Rattle.client_core.specs.declared.asked.Asked.{Asked}
use Rattle.client_core.specs.declared.key_role.KeyRole.TheVariants.{Client, Session}
use Rattle.client_core.specs.declared.sessions.Session as sessions
use Rattle.cred_files.specs.declared.credential.Credential.{Credential}
use Rattle.enctypes.specs.declared.key.Key.{Key}
use Rattle.krb_elements.specs.Codec.{written}
use Rattle.krb_fields.specs.declared.numbers.TheConstants.{AS_REP, TGS_REP}
use Rattle.krb_fields.specs.declared.moment.Moment.{Moment}
use Rattle.krb_types.specs.KdcReq.{message}
use Rattle.krb_types.specs.declared.kdc_req.Exchange.TheVariants.{As, Tgs}
use Rattle.rand_core.specs.Stream.{Stream}
use Rattle.client_login.specs.Replies.{IsAnswered}
use Rattle.client_login.specs.Asking.{first_asked}
use Rattle.client_login.specs.Draws.{after_confounder, drawn_confounder}
use Rattle.client_login.specs.Keys.{IsOwnKey, etypes_for}
use Rattle.client_login.specs.Moments.{IsNext}
use Rattle.client_login.specs.declared.secrets.Secret.{Secret}
use Rattle.client_login.specs.declared.ticket_requests.Login.{Login}

-- ---- a first ticket

-- the request with this secret
abbrev pub logs_in : Login → Secret → ℤ → ℕ → Asked
logs_in login secret now nonce = first_asked login (etypes_for secret login.client) now nonce

-- the bytes of an AS-REQ: without a timestamp, and with the moment under a key
abbrev pub plain_request : Asked → List ℕ
plain_request asked = written (message As) (asks_as None asked)

abbrev pub stamped_request : Asked → Key → Moment → List ℕ → List ℕ
stamped_request asked key at confounder = written (message As) (asks_with_timestamp asked key at confounder)

-- A network takes these requests: one without a timestamp, and one with the moment under a key of the client,
-- encrypted with the drawn bytes. After a replay error it takes one with the next microsecond, encrypted with the next
-- bytes. No key from a password is one that a KDC weakened.
pub record CarriesFirst (carries : List ℕ → Type 0) (secret : Secret) (asked : Asked) (at : Moment) (random : Stream)
    : Type 0 where
  pub plain : carries (plain_request asked)
  pub stamped : (key : Key) → IsOwnKey secret asked.realm asked.client key
      → carries (stamped_request asked key at (drawn_confounder random))
  pub again : (key : Key) (next : Moment) → IsOwnKey secret asked.realm asked.client key → IsNext at next
      → carries (stamped_request asked key next (drawn_confounder (after_confounder random)))

-- the credential was read from these bytes, under a key of the client
pub record TakesFirst (secret : Secret) (asked : Asked) (now : ℤ) (credential : Credential)
    (octets : List ℕ) : Type 0 where
  pub key : Key
  pub own : IsOwnKey secret asked.realm asked.client key
  pub taken : IsTaken AS_REP Client asked key now octets credential

-- the credential was read from a KDC's reply to the request, under a key of the client
pub record IsFirst (answers : SocketAddr → List ℕ → List ℕ → Type 0) (secret : Secret) (asked : Asked) (now : ℤ)
    (credential : Credential) : Type 0 where
  pub kdc : SocketAddr
  pub replied : IsAnswered answers kdc (TakesFirst secret asked now credential)

-- ---- a further ticket

-- the bytes of a TGS-REQ that presents a ticket, without a subkey
abbrev pub presented_request : Credential → Asked → sessions.Session → Moment → List ℕ → List ℕ
presented_request granting asked held at confounder =
    written (message Tgs) (asks_tgs asked granting.client held at None confounder)

-- a network takes these requests: at the moment, and after a replay error a microsecond later
pub record CarriesPresented (carries : List ℕ → Type 0) (granting : Credential) (asked : Asked) (at : Moment)
    (random : Stream) : Type 0 where
  pub presented : (held : sessions.Session) → session granting ≡ Some held
      → carries (presented_request granting asked held at (drawn_confounder random))
  pub again : (held : sessions.Session) (next : Moment) → session granting ≡ Some held → IsNext at next
      → carries (presented_request granting asked held next (drawn_confounder (after_confounder random)))

-- the credential was read from these bytes, under the session key of the presented ticket
pub record TakesFurther (granting : Credential) (asked : Asked) (now : ℤ) (credential : Credential) (octets : List ℕ)
    : Type 0 where
  pub key : Key
  pub shared : session_key granting ≡ Some key
  pub taken : IsTaken TGS_REP Session asked key now octets credential

-- the credential was read from a KDC's reply to the request, under that key
pub record IsFurther (answers : SocketAddr → List ℕ → List ℕ → Type 0) (granting : Credential) (asked : Asked) (now : ℤ)
    (credential : Credential) : Type 0 where
  pub kdc : SocketAddr
  pub replied : IsAnswered answers kdc (TakesFurther granting asked now credential)
