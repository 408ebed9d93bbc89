-- The answers of the AS exchange, and the client's failures afterwards.
use Rattle.std.specs.Prelude.{ℕ, ⊤, ◌⊎◌, nat_lt, if◌then◌else◌, List, length, Option, Some, None}
use Rattle.enctypes.specs.KeyUsage.{usage_number}
use Rattle.enctypes.specs.declared.key_usage.KeyUsage.TheVariants.{AsRepEncPart}
use Rattle.krb_elements.specs.Codec.{written}
use Rattle.krb_fields.specs.declared.numbers.TheConstants.{AS_REP, ENC_AS_REP_PART}
use Rattle.krb_fields.specs.PrincipalName.{Name}
use Rattle.krb_fields.specs.Salt.{default_salt}
use Rattle.krb_fields.specs.declared.moment.Moment.{Moment}
use Rattle.krb_types.specs.KdcRep.{KdcRep, kdc_rep}
use Rattle.krb_types.specs.EncKdcRepPart.{EncKdcRepPart}
use Rattle.krb_types.specs.EncTicketPart.{EncTicketPart}
use Rattle.krb_types.specs.KdcReq.{Received}
use Rattle.krb_types.specs.KrbError.{KrbError, krb_error}
use Rattle.krb_types.specs.ReqBody.{ReqBody}
use Rattle.kdc_replies.specs.ErrorReply.{error_reply, too_big}
use Rattle.kdc_replies.specs.Grant.{reply_part, ticket_part}
use Rattle.kdc_replies.specs.Incoming.{Incoming}
use Rattle.kdc_replies.specs.Reply.{NamesKey, OpensAlike}
use Rattle.kdc_replies.specs.ServiceTerms.{current_keys}
use Rattle.preauth.specs.Keys.{types_of}
use Rattle.preauth.specs.Lock.{after_failure, after_success}
use Rattle.preauth.specs.MethodData.{method_data}
use Rattle.preauth.specs.declared.timestamp.Outcome.{Outcome}
use Rattle.principal_rows.specs.declared.row.Row.{Row}
use Rattle.replay.specs.declared.failures.Failures.{Failures}
use Rattle.as_exchange.specs.View.{AsView, current_failures}
use Rattle.as_exchange.specs.Refusal.{code_of}
use Rattle.as_exchange.specs.Rules.{is_good}
use Rattle.as_exchange.specs.Issue.{as_rep, grant_by}
use Rattle.as_exchange.specs.Decision.{decision}
use Rattle.as_exchange.specs.declared.decision.Decision.{Decision}
use Rattle.as_exchange.specs.declared.decision.Decision.TheVariants.{Refuses, Issues}
use Rattle.as_exchange.specs.declared.refusal.AsRefusal.{AsRefusal}
use Rattle.as_exchange.specs.declared.refusal.AsRefusal.TheVariants.{BadVersion, BadMessageType, ClientUnknown}
use Rattle.as_exchange.specs.declared.refusal.AsRefusal.TheVariants.{ServiceUnknown, ServiceDenied}
use Rattle.as_exchange.specs.declared.refusal.AsRefusal.TheVariants.{ClientDisabled, ClientLocked, ClientExpired}
use Rattle.as_exchange.specs.declared.refusal.AsRefusal.TheVariants.{PasswordExpired}
use Rattle.as_exchange.specs.declared.refusal.AsRefusal.TheVariants.{ServiceRevoked, ServiceExpired, BadOption}
use Rattle.as_exchange.specs.declared.refusal.AsRefusal.TheVariants.{NoCommonType}
use Rattle.as_exchange.specs.declared.refusal.AsRefusal.TheVariants.{PreauthFailed, TimestampSkewed, PreauthRequired}
use Rattle.as_exchange.specs.declared.refusal.AsRefusal.TheVariants.{PostdatingRefused, StartsTooLate, NeverValid}
use Rattle.as_exchange.specs.declared.refusal.Effect.{Effect}
use Rattle.as_exchange.specs.declared.refusal.Effect.TheVariants.{Nothing, CountsFailure, SendsMethods}
use Rattle.as_exchange.specs.declared.refusal.Effect.TheVariants.{FollowsTimestamp}
use Rattle.as_exchange.specs.declared.terms.Admission.{Admission}

-- the bytes of the reply, and the client's failures afterwards; none if they don't change
pub record AsAnswer : Type 0 where
  pub reply : List ℕ
  pub failures : Option Failures

-- what a refusal causes besides its error code
abbrev pub sequel_of : AsRefusal → Effect
sequel_of BadVersion = Nothing
sequel_of BadMessageType = Nothing
sequel_of ClientUnknown = Nothing
sequel_of ServiceUnknown = Nothing
sequel_of ServiceDenied = Nothing
sequel_of ClientDisabled = Nothing
sequel_of ClientLocked = Nothing
sequel_of ClientExpired = Nothing
sequel_of PasswordExpired = Nothing
sequel_of ServiceRevoked = Nothing
sequel_of ServiceExpired = Nothing
sequel_of BadOption = Nothing
sequel_of NoCommonType = Nothing
sequel_of PreauthFailed = CountsFailure
sequel_of TimestampSkewed = Nothing
sequel_of PreauthRequired = SendsMethods
sequel_of PostdatingRefused = FollowsTimestamp
sequel_of StartsTooLate = FollowsTimestamp
sequel_of NeverValid = FollowsTimestamp

-- ---- failures

abbrev pub after_timestamp : Failures → Outcome → Option Failures
after_timestamp failures timestamp = if is_good timestamp then Some (after_success failures) else None

-- a failure is counted; a good timestamp ends the count, even if a later rule refuses the request
abbrev pub after_sequel : Failures → Moment → Outcome → Effect → Option Failures
after_sequel failures at timestamp Nothing = None
after_sequel failures at timestamp CountsFailure = Some (after_failure failures at)
after_sequel failures at timestamp SendsMethods = None
after_sequel failures at timestamp FollowsTimestamp = after_timestamp failures timestamp

-- ---- errors

-- METHOD-DATA: the client's current encryption types in the requested order, with the salt, and that timestamps are
-- accepted
abbrev pub methods_for : List ℕ → ReqBody → Option Row → Option Name → Option (List ℕ)
methods_for realm body (Some row) (Some name) =
    Some (method_data (default_salt realm name.components) (types_of (current_keys row) body.etype))
methods_for realm body (Some row) None = None
methods_for realm body None name = None

abbrev pub e_data_of : AsView → ReqBody → Effect → Option (List ℕ)
e_data_of v body Nothing = None
e_data_of v body CountsFailure = None
e_data_of v body SendsMethods = methods_for v.realm body v.client body.cname
e_data_of v body FollowsTimestamp = None

abbrev pub as_error : AsView → Moment → ReqBody → AsRefusal → KrbError
as_error v at body refusal = error_reply v.realm at (code_of refusal) body.sname (e_data_of v body (sequel_of refusal))

-- ---- answers

-- the error that is sent instead of a reply that is too long
abbrev pub refused_room : AsView → Moment → ReqBody → AsAnswer
refused_room v at body = record { reply = written krb_error (too_big v.realm at body); failures = None }

-- a reply with a ticket that doesn't fit changes nothing
abbrev pub within_room : AsView → Incoming → ReqBody → List ℕ → Option Failures → AsAnswer
within_room v incoming body octets failures =
    if nat_lt incoming.room (length octets) then refused_room v incoming.at body
    else record { reply = octets; failures = failures }

abbrev pub refused : AsView → Moment → ReqBody → AsRefusal → Outcome → AsAnswer
refused v at body refusal timestamp = record {
  reply = written krb_error (as_error v at body refusal);
  failures = after_sequel (current_failures v) at timestamp (sequel_of refusal);
}

abbrev pub answer_by : AsView → Incoming → ReqBody → Decision → AsAnswer
answer_by v incoming body (Refuses refusal timestamp) = refused v incoming.at body refusal timestamp
answer_by v incoming body (Issues admission) =
    within_room v incoming body (written (kdc_rep AS_REP) (as_rep v incoming.at incoming.random body admission))
    (after_timestamp (current_failures v) admission.timestamp)

abbrev pub as_answer : AsView → Incoming → Received → AsAnswer
as_answer v incoming message = answer_by v incoming message.body.value (decision v incoming.at.sec message)

-- ---- what the bytes encode

-- the error of a refusal; otherwise the AS-REP, or the error instead of it
abbrev pub SpelledBy : AsView → Moment → List ℕ → ReqBody → Decision → List ℕ → Type 0
SpelledBy v at random body (Refuses refusal timestamp) octets = krb_error.Spells (as_error v at body refusal) octets
SpelledBy v at random body (Issues admission) octets =
    (kdc_rep AS_REP).Spells (as_rep v at random body admission) octets
    ⊎ krb_error.Spells (too_big v.realm at body) octets

abbrev pub Spelled : AsView → Moment → List ℕ → Received → List ℕ → Type 0
Spelled v at random message octets = SpelledBy v at random message.body.value (decision v at.sec message) octets

-- ---- one ticket, two keys

-- The client's key decrypts the AS-REP to the same values as the service's key decrypts the ticket. Both are the keys
-- that the encrypted parts name in the rows of the client and of the service.
abbrev pub OpensTo : AsView → Admission → KdcRep AS_REP → EncKdcRepPart → EncTicketPart → Type 0
OpensTo v admission reply part ticket =
    OpensAlike AS_REP ENC_AS_REP_PART admission.terms.reply_key (usage_number AsRepEncPart)
    admission.terms.service.key.key
    reply part ticket
    × NamesKey v.client reply.enc_part admission.terms.reply_key
    × NamesKey v.service reply.ticket.enc_part admission.terms.service.key.key

-- they decrypt it to what was granted
abbrev pub OpensFor : AsView → Moment → List ℕ → ReqBody → Admission → Type 0
OpensFor v at random body admission =
    OpensTo v admission (as_rep v at random body admission)
    (reply_part (grant_by v at random body admission) body.nonce at.sec)
    (ticket_part (grant_by v at random body admission))

abbrev pub OpensBy : AsView → Moment → List ℕ → ReqBody → Decision → Type 0
OpensBy v at random body (Refuses refusal timestamp) = ⊤
OpensBy v at random body (Issues admission) = OpensFor v at random body admission

abbrev pub Opens : AsView → Moment → List ℕ → Received → Type 0
Opens v at random message = OpensBy v at random message.body.value (decision v at.sec message)

-- if a ticket is issued, the sent bytes encode its reply, which can be decrypted so, or the error instead of it
abbrev pub SentBy : AsView → Moment → List ℕ → ReqBody → Decision → List ℕ → Type 0
SentBy v at random body (Refuses refusal timestamp) octets = ⊤
SentBy v at random body (Issues admission) octets =
    ((kdc_rep AS_REP).Spells (as_rep v at random body admission) octets × OpensFor v at random body admission)
    ⊎ krb_error.Spells (too_big v.realm at body) octets

abbrev pub Sent : AsView → Moment → List ℕ → Received → List ℕ → Type 0
Sent v at random message octets = SentBy v at random message.body.value (decision v at.sec message) octets
