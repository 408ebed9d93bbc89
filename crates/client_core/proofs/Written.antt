-- Requests and their parts.
use Rattle.std.proofs.Common.{◌≡◌, ◌∙◌, ◌≤◌, ℕ, ℤ, pos, List, [], ◌∷◌, length, Option, Some, None, Result, Ok, Err, IfOk, IfSome, ap, to_z, of_z, w32}
use Rattle.cred_files.specs.declared.principal.Principal.{Principal}
use Rattle.enctypes.specs.KeyUsage.{usage_number}
use Rattle.enctypes.specs.declared.key.Key.{Key}
use Rattle.enctypes.specs.declared.key_usage.KeyUsage.TheVariants.{ApReqAuthenticator}
use Rattle.krb_types.specs.ApReq.{ApReq, ap_req}
use Rattle.krb_elements.specs.Codec.{written}
use Rattle.krb_fields.specs.PaData.{PaData}
use Rattle.krb_fields.specs.PrincipalName.{Name}
use Rattle.krb_fields.specs.declared.moment.Moment.{Moment}
use Rattle.krb_types.specs.Authenticator.{Authenticator}
use Rattle.krb_types.specs.KdcReq.{KdcReq, request_type}
use Rattle.krb_types.specs.ReqBody.{ReqBody}
use Rattle.krb_types.specs.declared.kdc_req.Exchange.{Exchange}
use Rattle.krb_types.specs.declared.kdc_req.Exchange.TheVariants.{As, Tgs}
use Rattle.client_core.proofs.Results.{respelled}
use Rattle.client_core.specs.Presenting.{presents}
use Rattle.client_core.specs.Requests.{asks_as, asks_tgs, body_of, request_of, tgs_data}
use Rattle.client_core.specs.ServiceRequests.{ap_authenticator, ap_options, asks_ap}
use Rattle.client_core.specs.ShortLaws.{presented_short}
use Rattle.client_core.specs.declared.asked.Asked.{Asked}
use Rattle.client_core.specs.declared.service_asked.ServiceAsked.{ServiceAsked}
use Rattle.client_core.specs.declared.sessions.Session.{Session}

abbrev pub request_typed : ℤ → Option (List PaData) → ReqBody → KdcReq
request_typed type padata body = record { pvno = pos 5; msg_type = type; padata = padata; body = body }

-- the message type is a number of 32 bits
pub typed_as : (exchange : Exchange) (padata : Option (List PaData)) (body : ReqBody) (type : ℤ) → type ≡ pos (request_type exchange)
    → request_typed (to_z w32 (of_z w32 type)) padata body ≡ request_of exchange padata body
typed_as As padata body type e = ap (λ (t : ℤ). request_typed (to_z w32 (of_z w32 t)) padata body) e
typed_as Tgs padata body type e = ap (λ (t : ℤ). request_typed (to_z w32 (of_z w32 t)) padata body) e

pub tgs_req_is : (asked : Asked) (client : Principal) (session : Session) (at : Moment) (subkey : Option Key) (confounder : List ℕ) (body : ReqBody) (entry : PaData)
    → entry ≡ tgs_data client session at subkey confounder body → body ≡ body_of None asked → request_of Tgs (Some (entry ∷ [])) body ≡ asks_tgs asked client session at subkey confounder
tgs_req_is asked client session at subkey confounder body entry made is =
    ap (λ (e : PaData). request_of Tgs (Some (e ∷ [])) body) made
    ∙ ap (λ (b : ReqBody). request_of Tgs (Some (tgs_data client session at subkey confounder b ∷ [])) b) is

-- the same of a credential that has a session, for what is written
pub tgs_written : (S : KdcReq → List ℕ → Type 0) {V E : Type 0} (octets : V → List ℕ) (r : Result V E) (held : Option Session)
    (asked : Asked) (client : Principal) (at : Moment) (subkey : Option Key) (confounder : List ℕ) (body : ReqBody) (entry : PaData)
    → IfSome held (λ s. entry ≡ tgs_data client s at subkey confounder body) → body ≡ body_of None asked
    → IfOk r (λ v. S (request_of Tgs (Some (entry ∷ [])) body) (octets v))
    → IfSome held (λ s. IfOk r (λ v. S (asks_tgs asked client s at subkey confounder) (octets v)))
tgs_written S octets r (Some session) asked client at subkey confounder body entry made is spelled =
    respelled S octets _ _ r (tgs_req_is asked client session at subkey confounder body entry made is) spelled
tgs_written S octets r None asked client at subkey confounder body entry made is spelled = tt

pub ap_req_is : (client : Principal) (session : Session) (at : Moment) (asked : ServiceAsked) (confounder : List ℕ) (options : ℕ) (auth : Authenticator)
    → options ≡ ap_options asked.mutual_required → auth ≡ ap_authenticator client at asked
    → presents session options (usage_number ApReqAuthenticator) confounder auth ≡ asks_ap client session at asked confounder
ap_req_is client session at asked confounder options auth chosen says =
    ap (λ (o : ℕ). presents session o (usage_number ApReqAuthenticator) confounder auth) chosen
    ∙ ap (λ (a : Authenticator). presents session (ap_options asked.mutual_required) (usage_number ApReqAuthenticator) confounder a) says

pub as_req_is : (asked : Asked) (client : Name) (padata : Option (List PaData)) (body : ReqBody) → client ≡ asked.client → body ≡ body_of (Some client) asked
    → request_of As padata body ≡ asks_as padata asked
as_req_is asked client padata body same is =
    ap (λ (b : ReqBody). request_of As padata b) is
    ∙ ap (λ (n : Name). request_of As padata (body_of (Some n) asked)) same

-- a short AP-REQ has a short encoding
pub short_octets : {V E : Type 0} (octets : V → List ℕ) (x : ApReq) (r : Result V E) → length (ap_req.text x) ≤ 34000000 → IfOk r (λ v. octets v ≡ written ap_req x) → IfOk r (λ v. length (octets v) ≤ 34000006)
short_octets octets x (Ok v) short is = presented_short x (octets v) short is
short_octets octets x (Err e) short is = tt
