-- All rules for a TGS-REQ, in one list, each with its section of RFC 4120. The first that holds decides; if none does,
-- a ticket is issued.
use Rattle.std.specs.Prelude.{ℕ, ℤ, pos, Bool, true, false, not, nat_eq, is_none, is_some, List, [], ◌∷◌, Option, Some}
use Rattle.std.specs.Prelude.{None}
use Rattle.std.specs.Prelude.{option_map}
use Rattle.std.specs.Ordering.{int_eq}
use Rattle.std.specs.Cmp.Lexicographic.{pointwise}
use Rattle.rule_lists.specs.Optional.{holds_of}
use Rattle.rule_lists.specs.Refusals.{Rule, first_holding}
use Rattle.ap_req.specs.Authenticators.{authenticator_in, is_mismatched, subkey_in}
use Rattle.ap_req.specs.HeldKey.{HeldKey, lacks_key, lacks_version}
use Rattle.ap_req.specs.Tickets.{is_other_version, part_of}
use Rattle.ap_req.specs.Validity.{has_ended, ticket_terms}
use Rattle.ap_req.specs.declared.refusal.ApRefusal.TheVariants as ap
use Rattle.enctypes.specs.declared.key.Key.{Key}
use Rattle.enctypes.specs.declared.key_usage.KeyUsage.TheVariants.{TgsReqAuthenticator}
use Rattle.kdc_replies.specs.Standing.{is_disabled, is_expired}
use Rattle.krb_types.specs.ApReq.{ApReq}
use Rattle.krb_fields.specs.declared.numbers.TheConstants.{PVNO, TGS_REQ, AP_REQ}
use Rattle.krb_fields.specs.ApOption.{ap_option_number}
use Rattle.krb_fields.specs.Flags.{has_bit}
use Rattle.krb_fields.specs.declared.ap_option.ApOption.TheVariants.{UseSessionKey}
use Rattle.krb_types.specs.KdcReq.{Received}
use Rattle.krb_types.specs.Authenticator.{Authenticator}
use Rattle.krb_types.specs.EncTicketPart.{EncTicketPart}
use Rattle.principal_rows.specs.declared.row.Row.{Row}
use Rattle.replay.specs.Kept.{nothing_kept}
use Rattle.replay.specs.ReplayCache.{verdict}
use Rattle.replay.specs.declared.keep.Kept.{Kept}
use Rattle.replay.specs.declared.verdict.Verdict.{Verdict}
use Rattle.replay.specs.declared.verdict.Verdict.TheVariants.{Fresh, Skew, Repeat, Full as NoPlace}
use Rattle.encrypted_data.specs.Keys.{key_of}
use Rattle.tgs_opening.specs.Authenticators.{is_modified, is_other_type}
use Rattle.tgs_opening.specs.Tickets.{value_ap_req, held_key, tgs_data}
use Rattle.tgs_opening.specs.View.{TicketView}
use Rattle.tgs_opening.specs.declared.refusal.TgsRefusal.{TgsRefusal}
use Rattle.tgs_opening.specs.declared.refusal.TgsRefusal.TheVariants as tgs
use Rattle.ticket_times.specs.declared.ticket_terms.TicketTerms.{TicketTerms}
use Rattle.ticket_times.specs.declared.times.Times.{Times}
use Rattle.tgs_exchange.specs.Rules.{asks_bad_option, has_nothing_to_validate, is_for_other_service, is_not_yet_valid}
use Rattle.tgs_exchange.specs.Rules.{is_renewed_too_late, is_service_denied, is_service_unknown, is_ticket_revoked}
use Rattle.tgs_exchange.specs.Rules.{is_validated_too_early, starts_late}
use Rattle.tgs_exchange.specs.Terms.{terms, times_of}
use Rattle.tgs_exchange.specs.View.{TgsView}
use Rattle.tgs_exchange.specs.declared.decision.Decision.{Decision}
use Rattle.tgs_exchange.specs.declared.decision.Decision.TheVariants.{Refuses, Records, Repeats}
use Rattle.tgs_exchange.specs.declared.terms.Terms.{Terms}

-- ---- what is known of a request

-- the AP-REQ in it, and what the KDC holds for the ticket in that
pub record Shown : Type 0 where
  pub ap : ApReq
  pub held : HeldKey

-- the decrypted ticket, its session key, and the authenticator that this decrypts
pub record Proved : Type 0 where
  pub part : EncTicketPart
  pub key : Key
  pub authenticator : Authenticator

-- What is known at a second: the message; the AP-REQ; the ticket's part and its session key; the authenticator; the
-- replay cache's verdict on it; the terms and times of a new ticket. What can't be read, decrypted or found is `None`.
pub record TgsFacts : Type 0 where
  pub now : ℤ
  pub message : Received
  pub shown : Option Shown
  pub part : Option EncTicketPart
  pub key : Option Key
  pub proved : Option Proved
  pub verdict : Verdict Kept
  pub found : Option Terms
  pub times : Option Times

-- ---- conditions on the AP-REQ

abbrev pub asks_session_key : Shown → Bool
asks_session_key s = has_bit s.ap.ap_options (ap_option_number UseSessionKey)

abbrev pub has_no_key : Shown → Bool
has_no_key s = lacks_key s.held s.ap.ticket.enc_part

abbrev pub has_no_version : Shown → Bool
has_no_version s = lacks_version s.held s.ap.ticket.enc_part

-- ---- conditions on the replay cache's verdict

abbrev pub is_skewed : Verdict Kept → Bool
is_skewed Fresh = false
is_skewed Skew = true
is_skewed (Repeat kept) = false
is_skewed NoPlace = false

abbrev pub is_repeated : Verdict Kept → Bool
is_repeated Fresh = false
is_repeated Skew = false
is_repeated (Repeat kept) = true
is_repeated NoPlace = false

-- what was stored for an authenticator that came before
abbrev pub stored_for : Verdict Kept → Kept
stored_for Fresh = nothing_kept
stored_for Skew = nothing_kept
stored_for (Repeat kept) = kept
stored_for NoPlace = nothing_kept

abbrev pub is_full : Verdict Kept → Bool
is_full Fresh = false
is_full Skew = false
is_full (Repeat kept) = false
is_full NoPlace = true

-- ---- in order

-- A rule `Refuses` leaves the replay cache as it is, a rule `Records` stores the error with the authenticator, and a
-- repeated authenticator gets what was stored for it. The body is the one of the message.
abbrev pub refusals : TgsView → TgsFacts → List (Rule (Decision Kept))
refusals v k =
    let body = k.message.body.value in
    let octets = k.message.body.octets in
    let now = k.now in
    (not (int_eq k.message.pvno PVNO), Refuses tgs.BadVersion)  -- 5.4.1
    ∷ (not (int_eq k.message.msg_type (pos TGS_REQ)), Refuses tgs.BadMessageType)  -- 5.4.1
    ∷ (is_none (tgs_data k.message), Refuses tgs.NoApReq)  -- 3.3.2
    ∷ (is_none k.shown, Refuses tgs.MalformedApReq)  -- 5.2.7.1
    ∷ (holds_of (λ s. is_other_version s.ap) k.shown, Refuses (tgs.Ap ap.BadVersion))  -- 5.5.1, 5.3
    ∷ (holds_of (λ s. not (int_eq s.ap.msg_type (pos AP_REQ))) k.shown, Refuses (tgs.Ap ap.BadMessageType))  -- 3.2.3
    ∷ (holds_of asks_session_key k.shown, Refuses (tgs.Ap ap.SessionKeyAsked))  -- 3.2.3
    ∷ (holds_of (λ s. not s.held.is_for_us) k.shown, Refuses (tgs.Ap ap.NotForUs))  -- 3.2.3, 3.3.2
    ∷ (holds_of has_no_key k.shown, Refuses (tgs.Ap ap.NoKey))  -- 3.2.3
    ∷ (holds_of has_no_version k.shown, Refuses (tgs.Ap ap.BadKeyVersion))  -- 3.2.3
    ∷ (is_none k.part, Refuses (tgs.Ap ap.TicketNotOpened))  -- 3.2.3
    ∷ (holds_of (λ t. not (pointwise nat_eq t.crealm v.realm)) k.part, Refuses (tgs.Ap ap.ForeignClient))  -- 3.3.3.2
    ∷ (holds_of (λ t. is_some t.caddr) k.part, Refuses (tgs.Ap ap.BoundAddress))  -- 3.2.3
    ∷ (is_none k.key, Refuses (tgs.Ap ap.BadSessionKey))  -- 3.2.3
    ∷ (is_none k.proved, Refuses (tgs.Ap ap.AuthenticatorNotOpened))  -- 3.2.3
    ∷ (holds_of (λ p. is_mismatched p.part p.authenticator) k.proved, Refuses (tgs.Ap ap.BadMatch))  -- 3.2.3
    ∷ (holds_of (λ p. is_none p.authenticator.cksum) k.proved, Refuses tgs.NoChecksum)  -- 3.3.2
    ∷ (holds_of (λ p. is_other_type p.key p.authenticator.cksum) k.proved, Refuses tgs.BadChecksumType)  -- 3.3.2
    ∷ (holds_of (λ p. is_modified p.key octets p.authenticator.cksum) k.proved, Refuses tgs.Modified)  -- 3.3.2
    ∷ (holds_of (λ p. is_none (subkey_in p.authenticator.subkey)) k.proved, Refuses (tgs.Ap ap.BadSubkey))  -- 3.3.3
    ∷ (is_none v.client, Refuses tgs.ClientUnknown)  -- 3.3.3.1
    ∷ (is_disabled v.client, Refuses tgs.ClientDisabled)  -- 3.3.3.1
    ∷ (is_expired v.client now, Refuses tgs.ClientExpired)  -- 3.3.3.1
    ∷ (holds_of (λ t. is_ticket_revoked v.client t.authtime) k.part, Refuses tgs.TicketRevoked)  -- 3.3.3.1
    ∷ (is_skewed k.verdict, Refuses (tgs.Ap ap.Skewed))  -- 3.2.3
    ∷ (is_repeated k.verdict, Repeats (stored_for k.verdict))  -- 3.3.2
    ∷ (is_full k.verdict, Refuses (tgs.Ap ap.Full))  -- 3.2.3
    -- from here on the authenticator is recorded
    ∷ (holds_of (λ t. is_not_yet_valid (ticket_terms t) now body) k.part, Records (tgs.Ap ap.NotYetValid))  -- 3.2.3
    ∷ (holds_of (λ t. has_ended (ticket_terms t) now) k.part, Records (tgs.Ap ap.TicketExpired))  -- 3.2.3
    ∷ (is_service_unknown v body, Records tgs.ServiceUnknown)  -- 3.3.3
    ∷ (is_service_denied v body, Records tgs.ServiceDenied)  -- 3.3.3
    ∷ (is_disabled v.service, Records tgs.ServiceRevoked)  -- 3.3.3
    ∷ (is_expired v.service now, Records tgs.ServiceExpired)  -- 3.3.3
    ∷ (holds_of (λ s. is_for_other_service body s.ap.ticket.sname) k.shown, Records tgs.OtherService)  -- 3.3.2
    ∷ (is_some body.enc_authorization_data, Records tgs.AuthorizationData)  -- 3.3.3
    ∷ (holds_of (λ t. asks_bad_option body (ticket_terms t)) k.part, Records tgs.BadOption)  -- 3.3.3
    ∷ (holds_of (λ t. has_nothing_to_validate body (ticket_terms t)) k.part, Records tgs.NothingToValidate)  -- 3.3.3
    ∷ (holds_of (λ t. is_validated_too_early body (ticket_terms t) now) k.part, Records tgs.ValidatedTooEarly)  -- 3.3.3
    ∷ (holds_of (λ t. is_renewed_too_late body (ticket_terms t) now) k.part, Records tgs.RenewedTooLate)  -- 3.3.3
    ∷ (is_none k.found, Records tgs.NoCommonType)  -- 3.3.3, 3.1.3
    ∷ (starts_late body now, Records tgs.StartsTooLate)  -- 3.3.3, 3.1.3
    ∷ (is_none k.times, Records tgs.NeverValid)  -- 3.3.3, 3.1.3
    ∷ []

-- ---- the facts of a request

abbrev pub shown_in : TicketView → Received → Option ApReq → Option Shown
shown_in o message =
    option_map (λ request. record { ap = request; held = held_key o message.body.value request.ticket })

abbrev pub part_shown : Option Shown → Option EncTicketPart
part_shown (Some s) = part_of s.held s.ap.ticket.enc_part
part_shown None = None

abbrev pub key_shown : Option EncTicketPart → Option Key
key_shown (Some part) = key_of part.key.number part.key.octets
key_shown None = None

abbrev pub proved_by : Option Shown → Option EncTicketPart → Option Key → Option Proved
proved_by (Some s) (Some part) (Some key) =
    option_map (λ auth. record { part = part; key = key; authenticator = auth })
    (authenticator_in TgsReqAuthenticator key s.ap.authenticator)
proved_by (Some s) (Some part) None = None
proved_by (Some s) None key = None
proved_by None part key = None

-- no rule asks for the verdict before there is an authenticator
abbrev pub verdict_for : TgsView → ℤ → Option Proved → Verdict Kept
verdict_for v now (Some p) = verdict v.cache now (p.authenticator.ctime, p.authenticator.cusec) v.limits.remembered
verdict_for v now None = Fresh

abbrev pub asked_times : TgsView → ℤ → Received → Option EncTicketPart → Option Times
asked_times v now message (Some part) =
    times_of v.limits now (ticket_terms part) message.body.value (terms v message.body.value)
asked_times v now message None = None

abbrev pub facts_by : TgsView → ℤ → Received → Option Shown → Option EncTicketPart → Option Key
    → Option Proved → TgsFacts
facts_by v now message shown part key proved = record {
  now = now;
  message = message;
  shown = shown;
  part = part;
  key = key;
  proved = proved;
  verdict = verdict_for v now proved;
  found = terms v message.body.value;
  times = asked_times v now message part;
}

abbrev pub facts_shown : TgsView → ℤ → Received → Option Shown → Option EncTicketPart → Option Key → TgsFacts
facts_shown v now message shown part key = facts_by v now message shown part key (proved_by shown part key)

-- the facts, given the AP-REQ
abbrev pub facts_with_ap_req : TicketView → TgsView → ℤ → Received → Option ApReq → TgsFacts
facts_with_ap_req o v now message ap =
    let shown = shown_in o message ap in
    facts_shown v now message shown (part_shown shown) (key_shown (part_shown shown))

abbrev pub facts : TicketView → TgsView → ℤ → Received → TgsFacts
facts o v now message = facts_with_ap_req o v now message (value_ap_req (tgs_data message))

-- ---- the rule that decides

-- the first rule that holds, if any
abbrev pub ruling : TicketView → TgsView → ℤ → Received → Option (Decision Kept)
ruling o v now message = first_holding (refusals v (facts o v now message))
