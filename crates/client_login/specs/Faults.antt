-- Why a login fails, and which KDC it names.
use Rattle.std.specs.Prelude.{◌≡◌, ℕ, ℤ, true, false, List, [], ◌∷◌, Option, Some, None, Result, Err}
use Rattle.std.specs.declared.net.socket_addr.SocketAddr.{SocketAddr}
use Rattle.client_core.specs.Asked.{is_askable}
use Rattle.client_core.specs.Passwords as passwords
use Rattle.client_core.specs.Replies.{reads_as, reads_tgs, refusal_in, reply_in, ticket_reply_in}
use Rattle.client_core.specs.Sessions.{is_presentable, session_key}
use Rattle.client_core.specs.declared.asked.Asked.{Asked}
use Rattle.client_core.specs.declared.fault.ReplyError.{ReplyError}
use Rattle.client_core.specs.declared.fault.ReplyError.TheVariants as found
use Rattle.client_core.specs.declared.fault.Refusal.{Refusal}
use Rattle.cred_files.specs.declared.credential.Credential.{Credential}
use Rattle.cred_files.specs.declared.keytab_entry.KeytabEntry.{KeytabEntry}
use Rattle.enctypes.specs.declared.key.Key.{Key}
use Rattle.krb_fields.specs.declared.numbers.TheConstants.{AS_REP, TGS_REP}
use Rattle.krb_fields.specs.Name.{Components}
use Rattle.krb_fields.specs.PrincipalName.{Name}
use Rattle.krb_types.specs.EtypeInfo2Entry.{EtypeInfo2Entry}
use Rattle.krb_types.specs.KdcRep.{KdcRep}
use Rattle.client_login.specs.Replies.{IsAnswered, IsError}
use Rattle.client_login.specs.Infos.{default_info, info_in_reply, info_of_refusal}
use Rattle.client_login.specs.Keys.{IsOwnKey, is_weak, key_named}
use Rattle.client_login.specs.declared.faults.LoginError.{LoginError}
use Rattle.client_login.specs.declared.faults.LoginError.TheVariants as says
use Rattle.client_login.specs.declared.secrets.Password.{Password}
use Rattle.client_login.specs.declared.secrets.Secret.{Secret}
use Rattle.client_login.specs.declared.secrets.Secret.TheVariants as secrets

-- ---- no key of the client, given a KDC's information about the client's types

abbrev pub IsNoPasswordKey : Password → List ℕ → Name → List EtypeInfo2Entry → LoginError → Type 0
IsNoPasswordKey password realm name info says.WeakCount = is_weak password.least_count info ≡ true
IsNoPasswordKey password realm name info says.NoKnownType =
    passwords.password_key password.octets realm name info ≡ Err found.CannotOpen
IsNoPasswordKey password realm name info says.CountTooLarge =
    passwords.password_key password.octets realm name info ≡ Err found.CountTooLarge
IsNoPasswordKey password realm name info says.Memory = Unit {0}
IsNoPasswordKey password realm name info why = ⊥

abbrev pub IsNoKeytabKey : List KeytabEntry → Components → List EtypeInfo2Entry → LoginError → Type 0
IsNoKeytabKey keytab who info says.NoKey = key_named keytab who info ≡ None
IsNoKeytabKey keytab who info why = ⊥

abbrev pub IsNoKey : Secret → List ℕ → Name → List EtypeInfo2Entry → LoginError → Type 0
IsNoKey (secrets.Password password) realm name info why = IsNoPasswordKey password realm name info why
IsNoKey (secrets.Keytab keytab) realm name info why = IsNoKeytabKey keytab (realm ∷ name.components) info why

-- an AS-REP's information about the key that decrypts it; for a keytab only its type
abbrev pub info_for : Secret → KdcRep AS_REP → List EtypeInfo2Entry
info_for (secrets.Password password) reply = info_in_reply reply
info_for (secrets.Keytab keytab) reply = default_info reply.enc_part.etype

-- the information in these bytes; a KRB-ERROR has it in its e-data
abbrev pub info_said : Secret → ReplyError → Option (KdcRep AS_REP) → List EtypeInfo2Entry
info_said secret (found.Refused refusal) reply = info_of_refusal refusal.e_data
info_said secret fault (Some reply) = info_for secret reply
info_said secret fault None = []

-- the client has no key for these bytes
abbrev pub SaysNoKey : Secret → Asked → LoginError → List ℕ → Type 0
SaysNoKey secret asked why octets =
    IsNoKey secret asked.realm asked.client (info_said secret (refusal_in octets) (ticket_reply_in AS_REP octets)) why

-- ---- a rejected reply

-- the reply is rejected under a key of the client
pub record IsRejected (secret : Secret) (asked : Asked) (now : ℤ) (fault : ReplyError) (octets : List ℕ) : Type 0 where
  pub key : Key
  pub own : IsOwnKey secret asked.realm asked.client key
  pub rejected : reads_as asked key now octets ≡ Err fault

-- ---- why there is no first ticket

-- the fault that bytes from a KDC report; nothing is known if memory ran out
abbrev pub SaysFirst : Secret → Asked → ℤ → LoginError → List ℕ → Type 0
SaysFirst secret asked now (says.Refused error) octets = IsError error (refusal_in octets)
SaysFirst secret asked now says.NotAReply octets = reply_in AS_REP octets ≡ Err found.NotAReply
SaysFirst secret asked now (says.Mismatch what) octets = IsRejected secret asked now (found.Mismatch what) octets
SaysFirst secret asked now says.CannotOpen octets = IsRejected secret asked now found.CannotOpen octets
SaysFirst secret asked now says.NoKey octets = SaysNoKey secret asked says.NoKey octets
SaysFirst secret asked now says.NoKnownType octets = SaysNoKey secret asked says.NoKnownType octets
SaysFirst secret asked now says.CountTooLarge octets = SaysNoKey secret asked says.CountTooLarge octets
SaysFirst secret asked now says.WeakCount octets = SaysNoKey secret asked says.WeakCount octets
SaysFirst secret asked now says.Memory octets = Unit {0}
SaysFirst secret asked now why octets = ⊥

-- The KDC that a fault names sent bytes that report the fault.
abbrev pub IsNamed : (SocketAddr → List ℕ → List ℕ → Type 0) → (List ℕ → Type 0) → Option SocketAddr → Type 0
IsNamed answers Says (Some kdc) = IsAnswered answers kdc Says
IsNamed answers Says None = ⊥

abbrev pub IsFirstFault : (SocketAddr → List ℕ → List ℕ → Type 0) → Secret → Asked → ℤ → LoginError → Option SocketAddr
    → Type 0
IsFirstFault answers secret asked now says.NotAskable kdc = (is_askable asked ≡ false) × (kdc ≡ None)
IsFirstFault answers secret asked now says.NoClientKey kdc = (asked.etypes ≡ []) × (kdc ≡ None)
IsFirstFault answers secret asked now (says.Silence error) kdc = kdc ≡ None
IsFirstFault answers secret asked now says.Memory kdc = kdc ≡ None
IsFirstFault answers secret asked now why kdc = IsNamed answers (SaysFirst secret asked now why) kdc

-- ---- why there is no further ticket

-- the fault that bytes from a KDC report under a session key; nothing is known if memory ran out
abbrev pub SaysTgs : Key → Asked → ℤ → LoginError → List ℕ → Type 0
SaysTgs key asked now (says.Refused error) octets = IsError error (refusal_in octets)
SaysTgs key asked now says.NotAReply octets = reply_in TGS_REP octets ≡ Err found.NotAReply
SaysTgs key asked now (says.Mismatch what) octets = reads_tgs asked key false now octets ≡ Err (found.Mismatch what)
SaysTgs key asked now says.SessionCannotOpen octets = reads_tgs asked key false now octets ≡ Err found.CannotOpen
SaysTgs key asked now says.Memory octets = Unit {0}
SaysTgs key asked now why octets = ⊥

-- the same, under the session key of the presented ticket
pub record SaysFurther (granting : Credential) (asked : Asked) (now : ℤ) (why : LoginError)
    (octets : List ℕ) : Type 0 where
  pub key : Key
  pub shared : session_key granting ≡ Some key
  pub says : SaysTgs key asked now why octets

abbrev pub IsFurtherFault : (SocketAddr → List ℕ → List ℕ → Type 0) → Credential → Asked → ℤ → LoginError
    → Option SocketAddr
    → Type 0
IsFurtherFault answers granting asked now says.NotPresentable kdc = (is_presentable granting ≡ false) × (kdc ≡ None)
IsFurtherFault answers granting asked now says.NotAskable kdc = (is_askable asked ≡ false) × (kdc ≡ None)
IsFurtherFault answers granting asked now (says.Silence error) kdc = kdc ≡ None
IsFurtherFault answers granting asked now says.Memory kdc = kdc ≡ None
IsFurtherFault answers granting asked now why kdc = IsNamed answers (SaysFurther granting asked now why) kdc

-- ---- why no KDC of a realm gives a useful reply

-- none replied; or the one that the fault names refused in such a way that the others were tried too
abbrev pub IsUnheard : (SocketAddr → List ℕ → List ℕ → Type 0) → LoginError → Option SocketAddr → Type 0
IsUnheard answers (says.Silence error) kdc = kdc ≡ None
IsUnheard answers says.Memory kdc = kdc ≡ None
IsUnheard answers (says.Refused error) kdc = IsNamed answers (λ octets. IsError error (refusal_in octets)) kdc
IsUnheard answers why kdc = ⊥

-- a fault that a reply shows names its KDC
abbrev pub named_by : LoginError → SocketAddr → Option SocketAddr
named_by says.Memory kdc = None
named_by why kdc = Some kdc

-- ---- the steps to these

-- the fault in a KRB-ERROR
abbrev pub SaysRefused : Secret → Asked → Refusal → LoginError → Type 0
SaysRefused secret asked refusal (says.Refused error) = refusal.error ≡ error
SaysRefused secret asked refusal says.Memory = Unit {0}
SaysRefused secret asked refusal why =
    IsNoKey secret asked.realm asked.client (info_of_refusal refusal.e_data) why

-- a reply with a ticket that is rejected
abbrev pub IsRejection : Result Credential ReplyError → LoginError → Type 0
IsRejection judged (says.Mismatch what) = judged ≡ Err (found.Mismatch what)
IsRejection judged says.CannotOpen = judged ≡ Err found.CannotOpen
IsRejection judged says.Memory = Unit {0}
IsRejection judged why = ⊥

abbrev pub IsTgsRejection : Result Credential ReplyError → LoginError → Type 0
IsTgsRejection judged (says.Mismatch what) = judged ≡ Err (found.Mismatch what)
IsTgsRejection judged says.SessionCannotOpen = judged ≡ Err found.CannotOpen
IsTgsRejection judged says.Memory = Unit {0}
IsTgsRejection judged why = ⊥
