-- The rules that refuse AS-REQs (RFC 4120, sections 3.1.2 and 3.1.3), in order, each with its section. The codes for
-- disabled and expired rows are from section 7.5.9.
use Rattle.std.specs.Prelude.{ℤ, pos, Bool, true, false, not, ◌&&◌, ◌||◌, nat_eq, is_none, List, [], ◌∷◌, Option}
use Rattle.std.specs.Prelude.{Some, None, Result, option_map}
use Rattle.std.specs.Ordering.{int_eq}
use Rattle.std.specs.Cmp.Lexicographic.{pointwise}
use Rattle.rule_lists.specs.Optional.{holds_of}
use Rattle.rule_lists.specs.Refusals.{Rule, decided}
use Rattle.kdc_replies.specs.Standing.{denies_tickets, has_come, is_disabled, is_expired}
use Rattle.krb_fields.specs.declared.numbers.TheConstants.{PVNO, AS_REQ}
use Rattle.krb_fields.specs.declared.kdc_option.KdcOption.TheVariants.{Forwarded, Proxy, AllowPostdate, Postdated}
use Rattle.krb_fields.specs.declared.kdc_option.KdcOption.TheVariants.{EncTktInSkey, Renew, Validate}
use Rattle.krb_types.specs.KdcReq.{Received}
use Rattle.krb_types.specs.ReqBody.{ReqBody}
use Rattle.preauth.specs.Lock.{is_locked}
use Rattle.preauth.specs.Timestamp.{outcome}
use Rattle.preauth.specs.declared.timestamp.Outcome.{Outcome}
use Rattle.preauth.specs.declared.timestamp.Outcome.TheVariants.{Absent, Bad, Skewed, Good}
use Rattle.principal_rows.specs.declared.row.Row.{Row}
use Rattle.ticket_times.specs.Asked.{asks}
use Rattle.ticket_times.specs.Times.{starts_too_late}
use Rattle.as_exchange.specs.View.{AsView, current_failures}
use Rattle.ticket_times.specs.declared.times.Times.{Times}
use Rattle.as_exchange.specs.Terms.{terms, admission_of, times_of}
use Rattle.as_exchange.specs.declared.refusal.AsRefusal.{AsRefusal}
use Rattle.as_exchange.specs.declared.refusal.AsRefusal.TheVariants.{BadVersion, BadMessageType, ClientUnknown}
use Rattle.as_exchange.specs.declared.refusal.AsRefusal.TheVariants.{ServiceUnknown, ServiceDenied, ClientDisabled}
use Rattle.as_exchange.specs.declared.refusal.AsRefusal.TheVariants.{ClientLocked}
use Rattle.as_exchange.specs.declared.refusal.AsRefusal.TheVariants.{ClientExpired, PasswordExpired, ServiceRevoked}
use Rattle.as_exchange.specs.declared.refusal.AsRefusal.TheVariants.{ServiceExpired, BadOption, NoCommonType}
use Rattle.as_exchange.specs.declared.refusal.AsRefusal.TheVariants.{PreauthFailed, TimestampSkewed, PreauthRequired}
use Rattle.as_exchange.specs.declared.refusal.AsRefusal.TheVariants.{PostdatingRefused, StartsTooLate, NeverValid}
use Rattle.as_exchange.specs.declared.terms.Admission.{Admission}
use Rattle.as_exchange.specs.declared.terms.Terms.{Terms}

abbrev pub is_bad_version : Received → Bool
is_bad_version message = not (int_eq message.pvno PVNO)

abbrev pub is_bad_message_type : Received → Bool
is_bad_message_type message = not (int_eq message.msg_type (pos AS_REQ))

-- the realm is another one, no client is named, or the client has no row
abbrev pub is_client_unknown : AsView → ReqBody → Bool
is_client_unknown v body = not (pointwise nat_eq body.realm v.realm) || is_none body.cname || is_none v.client

-- no service is named, or the service has no row
abbrev pub is_service_unknown : AsView → ReqBody → Bool
is_service_unknown v body = is_none body.sname || is_none v.service

-- no tickets may be issued for the service
abbrev pub is_service_denied : AsView → ReqBody → Bool
is_service_denied v body = denies_tickets v.realm (option_map (λ name. name.components) body.sname) v.service

abbrev pub has_expired_password : Option Row → ℤ → Bool
has_expired_password row now = holds_of (λ row. has_come row.policy.password_expires now) row

-- locked by the failures for its current key version
abbrev pub is_client_locked : AsView → ℤ → Bool
is_client_locked v now = is_locked (current_failures v) v.limits now

-- options that only a TGS-REQ may have
abbrev pub asks_bad_option : ReqBody → Bool
asks_bad_option body =
    asks body Forwarded || asks body Proxy || asks body EncTktInSkey || asks body Renew || asks body Validate

abbrev pub needs_preauth : Option Row → Bool
needs_preauth = holds_of (λ row. row.policy.preauth)

abbrev pub forbids_postdating : Option Row → Bool
forbids_postdating = holds_of (λ row. not row.policy.postdate)

abbrev pub is_postdating_refused : AsView → ReqBody → Bool
is_postdating_refused v body =
    (asks body Postdated || asks body AllowPostdate) && (forbids_postdating v.client || forbids_postdating v.service)

-- the outcome of the timestamp; without a row none is checked
abbrev pub timestamp_of : Option Row → ℤ → Received → Outcome
timestamp_of (Some row) now message = outcome row now message.padata
timestamp_of None now message = Absent

abbrev pub is_bad : Outcome → Bool
is_bad Absent = false
is_bad Bad = true
is_bad Skewed = false
is_bad Good = false

abbrev pub is_timestamp_skewed : Outcome → Bool
is_timestamp_skewed Absent = false
is_timestamp_skewed Bad = false
is_timestamp_skewed Skewed = true
is_timestamp_skewed Good = false

abbrev pub is_absent : Outcome → Bool
is_absent Absent = true
is_absent Bad = false
is_absent Skewed = false
is_absent Good = false

abbrev pub is_good : Outcome → Bool
is_good Absent = false
is_good Bad = false
is_good Skewed = false
is_good Good = true

-- the client's row requires a timestamp and the request has none
abbrev pub lacks_preauth : Option Row → Outcome → Bool
lacks_preauth row timestamp = is_absent timestamp && needs_preauth row

-- all rules in order, given the outcome of the timestamp, the terms, and the times of a ticket
abbrev pub rules_by : AsView → ℤ → Received → Outcome → Option Terms → Option Times → List (Rule AsRefusal)
rules_by v now message timestamp found times =
    (is_bad_version message, BadVersion)  -- 3.1.2, 5.4.1
    ∷ (is_bad_message_type message, BadMessageType)  -- 3.1.2, 5.4.1
    ∷ (is_client_unknown v message.body.value, ClientUnknown)  -- 3.1.3
    ∷ (is_service_unknown v message.body.value, ServiceUnknown)  -- 3.1.3
    ∷ (is_service_denied v message.body.value, ServiceDenied)  -- 3.1.3
    ∷ (is_disabled v.client, ClientDisabled)  -- 3.1.3
    ∷ (is_client_locked v now, ClientLocked)  -- 3.1.3
    ∷ (is_expired v.client now, ClientExpired)  -- 3.1.3
    ∷ (has_expired_password v.client now, PasswordExpired)  -- 3.1.3
    ∷ (is_disabled v.service, ServiceRevoked)  -- 3.1.3
    ∷ (is_expired v.service now, ServiceExpired)  -- 3.1.3
    ∷ (asks_bad_option message.body.value, BadOption)  -- 5.4.1
    ∷ (is_none found, NoCommonType)  -- 3.1.3
    ∷ (is_bad timestamp, PreauthFailed)  -- 3.1.3
    ∷ (is_timestamp_skewed timestamp, TimestampSkewed)  -- 3.1.3, 5.2.7.2
    ∷ (lacks_preauth v.client timestamp, PreauthRequired)  -- 3.1.3
    ∷ (is_postdating_refused v message.body.value, PostdatingRefused)  -- 3.1.3
    ∷ (starts_too_late now message.body.value, StartsTooLate)  -- 3.1.3
    ∷ (is_none times, NeverValid)  -- 3.1.3
    ∷ []

-- The admission, or the first rule that refuses. If no rule refuses, there are terms and times, so the fallback is
-- never the reason.
abbrev pub admitted_on : AsView → ℤ → Received → Outcome → Option Terms → Option Times → Result Admission AsRefusal
admitted_on v now message timestamp found times =
    decided (rules_by v now message timestamp found times) (admission_of timestamp found times) NeverValid

abbrev pub admitted_by : AsView → ℤ → Received → Outcome → Option Terms → Result Admission AsRefusal
admitted_by v now message timestamp found =
    admitted_on v now message timestamp found (times_of v.limits now message.body.value found)

abbrev pub admitted : AsView → ℤ → Received → Outcome → Result Admission AsRefusal
admitted v now message timestamp = admitted_by v now message timestamp (terms v message.body.value)
