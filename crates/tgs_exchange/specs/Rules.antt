-- The rules that refuse a TGS-REQ whose ticket and authenticator were decrypted, in order. First come those of the
-- client; once the authenticator is known to be new, those of the ticket and of the request follow. Each rule has its
-- section of RFC 4120; the codes for rows that are disabled or have expired are those of section 7.5.9.
use Rattle.std.specs.Prelude.{ℤ, Bool, false, not, ◌&&◌, ◌||◌, nat_eq, int_lt, is_none, is_some, List, []}
use Rattle.std.specs.Prelude.{◌∷◌, Option, Some, None, Result, option_map}
use Rattle.std.specs.Cmp.Lexicographic.{pointwise}
use Rattle.rule_lists.specs.Optional.{holds_of}
use Rattle.rule_lists.specs.Refusals.{Rule, decided}
use Rattle.krb_fields.specs.PrincipalName.{Name}
use Rattle.krb_fields.specs.declared.kdc_option.KdcOption.{KdcOption}
use Rattle.krb_fields.specs.declared.kdc_option.KdcOption as options
use Rattle.krb_fields.specs.declared.ticket_flag.TicketFlag.{TicketFlag}
use Rattle.krb_fields.specs.declared.ticket_flag.TicketFlag.TheVariants.{Forwardable, Proxiable, MayPostdate, Invalid}
use Rattle.krb_fields.specs.declared.ticket_flag.TicketFlag.TheVariants.{Renewable}
use Rattle.krb_types.specs.ReqBody.{ReqBody}
use Rattle.kdc_replies.specs.Standing.{denies_tickets, is_disabled, is_expired}
use Rattle.principal_rows.specs.declared.row.Row.{Row}
use Rattle.ticket_times.specs.Asked.{asks, keeps_ticket}
use Rattle.ticket_times.specs.TicketTerms.{has_flag, start_of_ticket, renewal_of_ticket}
use Rattle.ticket_times.specs.Times.{starts_too_late}
use Rattle.ticket_times.specs.declared.ticket_terms.TicketTerms.{TicketTerms}
use Rattle.tgs_opening.specs.Tickets.{is_named}
use Rattle.tgs_opening.specs.declared.presented.Presented.{Presented}
use Rattle.tgs_opening.specs.declared.refusal.TgsRefusal.{TgsRefusal}
use Rattle.tgs_opening.specs.declared.refusal.TgsRefusal.TheVariants.{ClientUnknown, ClientDisabled, ClientExpired}
use Rattle.tgs_opening.specs.declared.refusal.TgsRefusal.TheVariants.{TicketRevoked}
use Rattle.ap_req.specs.Validity.{has_ended, has_not_started, ticket_terms}
use Rattle.ap_req.specs.declared.refusal.ApRefusal.TheVariants.{NotYetValid, TicketExpired}
use Rattle.tgs_opening.specs.declared.refusal.TgsRefusal.TheVariants.{Ap, ServiceUnknown}
use Rattle.tgs_opening.specs.declared.refusal.TgsRefusal.TheVariants.{ServiceDenied, ServiceRevoked, ServiceExpired}
use Rattle.tgs_opening.specs.declared.refusal.TgsRefusal.TheVariants.{OtherService, AuthorizationData}
use Rattle.tgs_opening.specs.declared.refusal.TgsRefusal.TheVariants.{BadOption, NothingToValidate, ValidatedTooEarly}
use Rattle.tgs_opening.specs.declared.refusal.TgsRefusal.TheVariants.{RenewedTooLate, NoCommonType, StartsTooLate}
use Rattle.tgs_opening.specs.declared.refusal.TgsRefusal.TheVariants.{NeverValid}
use Rattle.tgs_exchange.specs.View.{TgsView}
use Rattle.ticket_times.specs.declared.times.Times.{Times}
use Rattle.tgs_exchange.specs.Terms.{terms, admission_of, times_of}
use Rattle.tgs_exchange.specs.declared.terms.Admission.{Admission}
use Rattle.tgs_exchange.specs.declared.terms.Terms.{Terms}

-- ---- the client

-- a moment before which the client's tickets are revoked
abbrev pub is_before : ℤ → Option ℤ → Bool
is_before time (Some revoked_before) = int_lt time revoked_before
is_before time None = false

-- the client was first authenticated before that moment
abbrev pub is_ticket_revoked : Option Row → ℤ → Bool
is_ticket_revoked row authtime = holds_of (λ row. is_before authtime row.policy.revoked_before) row

abbrev pub client_rules : TgsView → ℤ → ℤ → List (Rule TgsRefusal)
client_rules v now authtime =
    (is_none v.client, ClientUnknown)  -- 3.3.3.1
    ∷ (is_disabled v.client, ClientDisabled)  -- 3.3.3.1
    ∷ (is_expired v.client now, ClientExpired)  -- 3.3.3.1
    ∷ (is_ticket_revoked v.client authtime, TicketRevoked)  -- 3.3.3.1
    ∷ []

-- ---- the ticket

-- it starts later than the clock skew allows, or has yet to be validated, and this request doesn't ask for that
abbrev pub is_not_yet_valid : TicketTerms → ℤ → ReqBody → Bool
is_not_yet_valid ticket now body =
    has_not_started ticket now
    || (has_flag ticket Invalid && not (asks body options.TheVariants.Validate))

-- ---- the service

-- the realm isn't ours, no service is named, or it has no row
abbrev pub is_service_unknown : TgsView → ReqBody → Bool
is_service_unknown v body = not (pointwise nat_eq body.realm v.realm) || is_none body.sname || is_none v.service

-- no tickets may be issued for the service
abbrev pub is_service_denied : TgsView → ReqBody → Bool
is_service_denied v body = denies_tickets v.realm (option_map (λ name. name.components) body.sname) v.service

-- it is to be renewed or validated for another service than its own
abbrev pub is_for_other_service : ReqBody → Name → Bool
is_for_other_service body ticket_service = keeps_ticket body && not (is_named body.sname ticket_service)

-- ---- options

-- the request has an option that needs this flag, and the ticket lacks it
abbrev pub lacks_flag : ReqBody → TicketTerms → KdcOption → TicketFlag → Bool
lacks_flag body ticket option flag = asks body option && not (has_flag ticket flag)

-- ENC-TKT-IN-SKEY; RENEW with VALIDATE; or an option whose flag the ticket lacks
abbrev pub asks_bad_option : ReqBody → TicketTerms → Bool
asks_bad_option body ticket =
    asks body options.TheVariants.EncTktInSkey
    || (asks body options.TheVariants.Renew && asks body options.TheVariants.Validate)
    || lacks_flag body ticket options.TheVariants.Forwardable Forwardable
    || lacks_flag body ticket options.TheVariants.Forwarded Forwardable
    || lacks_flag body ticket options.TheVariants.Proxiable Proxiable
    || lacks_flag body ticket options.TheVariants.Proxy Proxiable
    || lacks_flag body ticket options.TheVariants.AllowPostdate MayPostdate
    || lacks_flag body ticket options.TheVariants.Postdated MayPostdate
    || lacks_flag body ticket options.TheVariants.Renewable Renewable
    || lacks_flag body ticket options.TheVariants.Renew Renewable

-- ---- renewing and validating

abbrev pub has_nothing_to_validate : ReqBody → TicketTerms → Bool
has_nothing_to_validate body ticket = asks body options.TheVariants.Validate && not (has_flag ticket Invalid)

abbrev pub is_validated_too_early : ReqBody → TicketTerms → ℤ → Bool
is_validated_too_early body ticket now = asks body options.TheVariants.Validate && int_lt now (start_of_ticket ticket)

abbrev pub is_renewed_too_late : ReqBody → TicketTerms → ℤ → Bool
is_renewed_too_late body ticket now = asks body options.TheVariants.Renew && int_lt (renewal_of_ticket ticket) now

-- a new ticket's start is requested without POSTDATED, and lies beyond the clock skew
abbrev pub starts_late : ReqBody → ℤ → Bool
starts_late body now = not (keeps_ticket body) && starts_too_late now body

-- ---- in order

-- the rules of the presented ticket and its service, of the request, of the terms that are found for it, and of the new
-- ticket's times
abbrev pub rules_by : TgsView → ℤ → ReqBody → Presented → Option Terms → Option Times → List (Rule TgsRefusal)
rules_by v now body p found times =
    let ticket = ticket_terms p.ticket in
    (is_not_yet_valid ticket now body, Ap NotYetValid)  -- 3.2.3
    ∷ (has_ended ticket now, Ap TicketExpired)  -- 3.2.3
    ∷ (is_service_unknown v body, ServiceUnknown)  -- 3.3.3
    ∷ (is_service_denied v body, ServiceDenied)  -- 3.3.3
    ∷ (is_disabled v.service, ServiceRevoked)  -- 3.3.3
    ∷ (is_expired v.service now, ServiceExpired)  -- 3.3.3
    ∷ (is_for_other_service body p.ticket_service, OtherService)  -- 3.3.2
    ∷ (is_some body.enc_authorization_data, AuthorizationData)  -- 3.3.3
    ∷ (asks_bad_option body ticket, BadOption)  -- 3.3.3
    ∷ (has_nothing_to_validate body ticket, NothingToValidate)  -- 3.3.3
    ∷ (is_validated_too_early body ticket now, ValidatedTooEarly)  -- 3.3.3
    ∷ (is_renewed_too_late body ticket now, RenewedTooLate)  -- 3.3.3
    ∷ (is_none found, NoCommonType)  -- 3.3.3, 3.1.3
    ∷ (starts_late body now, StartsTooLate)  -- 3.3.3, 3.1.3
    ∷ (is_none times, NeverValid)  -- 3.3.3, 3.1.3
    ∷ []

-- The admission, or the first rule that refuses. If no rule holds, there are terms and times, so the reason after the
-- rules is never given for any other cause.
abbrev pub admitted_on : TgsView → ℤ → ReqBody → Presented → Option Terms → Option Times → Result Admission TgsRefusal
admitted_on v now body p found times = decided (rules_by v now body p found times) (admission_of found times) NeverValid

abbrev pub admitted_by : TgsView → ℤ → ReqBody → Presented → Option Terms → Result Admission TgsRefusal
admitted_by v now body p found =
    admitted_on v now body p found (times_of v.limits now (ticket_terms p.ticket) body found)

abbrev pub admitted : TgsView → ℤ → ReqBody → Presented → Result Admission TgsRefusal
admitted v now body p = admitted_by v now body p (terms v body)
