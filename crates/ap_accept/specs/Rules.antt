-- The rules by which an acceptor refuses an AP-REQ: one table, in the order in which they are checked (RFC 4120,
-- section 3.2.3). It is stated apart from the rules in `ap_req`, by which the code decides. So a mistake in those rules
-- is not repeated here.
use Rattle.std.specs.Prelude.{ℤ, pos, ◌+ℤ◌, ◌-ℤ◌, ⊤, Bool, true, false, not, ◌&&◌, ◌||◌, nat_eq, int_lt, is_some}
use Rattle.std.specs.Prelude.{is_none, if◌then◌else◌, List, [], ◌∷◌, Option, Some, None}
use Rattle.std.specs.Cmp.Lexicographic.{pointwise}
use Rattle.std.specs.Option.{unwrap_or}
use Rattle.std.specs.Ordering.{eq_by_cmp, int_eq}
use Rattle.ap_req.specs.declared.refusal.ApRefusal.{ApRefusal}
use Rattle.ap_req.specs.declared.refusal.ApRefusal.TheVariants.{BadVersion, BadMessageType, SessionKeyAsked}
use Rattle.ap_req.specs.declared.refusal.ApRefusal.TheVariants.{NotForUs, NoKey, BadKeyVersion, TicketNotOpened}
use Rattle.ap_req.specs.declared.refusal.ApRefusal.TheVariants.{ForeignClient, BoundAddress, BadSessionKey}
use Rattle.ap_req.specs.declared.refusal.ApRefusal.TheVariants.{AuthenticatorNotOpened, BadMatch, BadSubkey}
use Rattle.ap_req.specs.declared.refusal.ApRefusal.TheVariants.{Skewed, Repeated, Full, NotYetValid, TicketExpired}
use Rattle.cred_files.specs.Keytab.{entry_for, newest, passes}
use Rattle.cred_files.specs.declared.keytab_entry.KeytabEntry.{KeytabEntry}
use Rattle.krb_types.specs.ApReq.{ApReq}
use Rattle.krb_fields.specs.declared.numbers.TheConstants.{PVNO, AP_REQ}
use Rattle.krb_fields.specs.ApOption.{ap_option_number}
use Rattle.krb_fields.specs.Flags.{has_bit}
use Rattle.krb_fields.specs.Name.{name_cmp}
use Rattle.krb_fields.specs.Skew.{skew}
use Rattle.krb_fields.specs.TicketFlag.{ticket_flag_number}
use Rattle.krb_fields.specs.declared.ap_option.ApOption.TheVariants.{UseSessionKey}
use Rattle.krb_fields.specs.declared.code.Code.{Code}
use Rattle.krb_fields.specs.declared.code.Code.TheVariants as codes
use Rattle.krb_fields.specs.declared.ticket_flag.TicketFlag.TheVariants.{Invalid}
use Rattle.krb_types.specs.Authenticator.{Authenticator}
use Rattle.krb_types.specs.EncTicketPart.{EncTicketPart}
use Rattle.rule_lists.specs.Optional.{holds_of}
use Rattle.replay.specs.declared.verdict.Verdict.{Verdict}
use Rattle.replay.specs.declared.verdict.Verdict.TheVariants as verdicts
use Rattle.encrypted_data.specs.Keys.{type_numbered}
use Rattle.ap_accept.specs.Contents.{Contents, service_of, subkey_of}

-- ---- the conditions: of the request and the keytab

abbrev pub is_other_version : ApReq → Bool
is_other_version ap = not (int_eq ap.pvno PVNO) || not (int_eq ap.ticket.tkt_vno PVNO)

abbrev pub is_other_message : ApReq → Bool
is_other_message ap = not (int_eq ap.msg_type (pos AP_REQ))

abbrev pub asks_session_key : ApReq → Bool
asks_session_key ap = has_bit ap.ap_options (ap_option_number UseSessionKey)

-- the keytab has no entry for the ticket's realm and service
abbrev pub lacks_service : List KeytabEntry → ApReq → Bool
lacks_service keytab ap = is_none (newest (passes (service_of ap) None None) keytab)

-- none of the service's entries is of the ticket's encryption type
abbrev pub lacks_type : List KeytabEntry → ApReq → Bool
lacks_type keytab ap = is_none (entry_for keytab (service_of ap) (type_numbered ap.ticket.enc_part.etype) None)

-- the ticket names a key version, and none of those entries has it
abbrev pub lacks_version : ApReq → Option KeytabEntry → Bool
lacks_version ap entry = is_some ap.ticket.enc_part.kvno && is_none entry

-- ---- of the decrypted ticket and authenticator

-- the client's realm is not the ticket's
abbrev pub is_foreign : ApReq → EncTicketPart → Bool
is_foreign ap ticket = not (pointwise nat_eq ticket.crealm ap.ticket.realm)

abbrev pub is_bound : EncTicketPart → Bool
is_bound ticket = is_some ticket.caddr

-- The authenticator's client differs from the ticket's, by its realm or by the components of its name. The name-type is
-- a hint (section 6.2).
abbrev pub is_other_client : EncTicketPart → Authenticator → Bool
is_other_client ticket auth =
    not (pointwise nat_eq auth.crealm ticket.crealm)
    || not (eq_by_cmp name_cmp auth.cname.components ticket.cname.components)

abbrev pub differs : Option EncTicketPart → Option Authenticator → Bool
differs (Some ticket) auth = holds_of (is_other_client ticket) auth
differs None auth = false

-- it has a subkey that is no key of the four encryption types
abbrev pub has_bad_subkey : Authenticator → Bool
has_bad_subkey auth = is_some auth.subkey && is_none (subkey_of auth)

-- ---- of the replay cache's verdict

abbrev pub is_skewed : Verdict ⊤ → Bool
is_skewed verdicts.Fresh = false
is_skewed verdicts.Skew = true
is_skewed (verdicts.Repeat kept) = false
is_skewed verdicts.Full = false

abbrev pub is_repeated : Verdict ⊤ → Bool
is_repeated verdicts.Fresh = false
is_repeated verdicts.Skew = false
is_repeated (verdicts.Repeat kept) = true
is_repeated verdicts.Full = false

abbrev pub is_full : Verdict ⊤ → Bool
is_full verdicts.Fresh = false
is_full verdicts.Skew = false
is_full (verdicts.Repeat kept) = false
is_full verdicts.Full = true

-- ---- of the ticket's times and flags, at the second `now`

-- it starts more than the clock skew from now, or has to be validated; without a starttime it starts at its authtime
abbrev pub is_not_yet_valid : ℤ → EncTicketPart → Bool
is_not_yet_valid now ticket =
    int_lt (now +ℤ pos skew) (unwrap_or ticket.starttime ticket.authtime)
    || has_bit ticket.flags (ticket_flag_number Invalid)

-- it ended more than the clock skew ago
abbrev pub has_ended : ℤ → EncTicketPart → Bool
has_ended now ticket = int_lt ticket.endtime (now -ℤ pos skew)

-- ---- the table

-- A row: the condition, the rule that refuses if it holds, that rule's code (section 7.5.9), and whether the
-- authenticator is recorded nevertheless.
pub record Row : Type 0 where
  pub holds : Bool
  pub refusal : ApRefusal
  pub code : Code
  pub recorded : Bool

abbrev pub refuses : Bool → ApRefusal → Code → Row
refuses holds refusal code = record { holds = holds; refusal = refusal; code = code; recorded = false }

abbrev pub records_and_refuses : Bool → ApRefusal → Code → Row
records_and_refuses holds refusal code =
    record { holds = holds; refusal = refusal; code = code; recorded = true }

abbrev pub rows : List KeytabEntry → ℤ → ApReq → Contents → List Row
rows keytab now ap c =
    refuses (is_other_version ap) BadVersion codes.KrbApErrBadversion  -- 39; sections 5.3, 5.5.1
    ∷ refuses (is_other_message ap) BadMessageType codes.KrbApErrMsgType  -- 40; section 3.2.3
    ∷ refuses (asks_session_key ap) SessionKeyAsked codes.KrbApErrNokey  -- 45; section 3.2.3
    ∷ refuses (lacks_service keytab ap) NotForUs codes.KrbApErrNotUs  -- 35; section 3.2.3
    ∷ refuses (lacks_type keytab ap) NoKey codes.KrbApErrNokey  -- 45; section 3.2.3
    ∷ refuses (lacks_version ap c.entry) BadKeyVersion codes.KrbApErrBadkeyver  -- 44; section 3.2.3
    ∷ refuses (is_none c.ticket) TicketNotOpened codes.KrbApErrBadIntegrity  -- 31; section 3.2.3
    ∷ refuses (holds_of (is_foreign ap) c.ticket) ForeignClient codes.KrbApPathNotAccepted  -- 51; section 2.7
    ∷ refuses (holds_of is_bound c.ticket) BoundAddress codes.KrbApErrBadaddr  -- 38; section 3.2.3
    ∷ refuses (is_none c.session_key) BadSessionKey codes.KdcErrEtypeNosupp  -- 14
    ∷ refuses (is_none c.authenticator) AuthenticatorNotOpened codes.KrbApErrBadIntegrity  -- 31; section 3.2.3
    ∷ refuses (differs c.ticket c.authenticator) BadMatch codes.KrbApErrBadmatch  -- 36; section 3.2.3
    ∷ refuses (holds_of has_bad_subkey c.authenticator) BadSubkey codes.KdcErrEtypeNosupp  -- 14
    ∷ refuses (holds_of is_skewed c.verdict) Skewed codes.KrbApErrSkew  -- 37; section 3.2.3
    ∷ refuses (holds_of is_repeated c.verdict) Repeated codes.KrbApErrRepeat  -- 34; section 3.2.3
    ∷ refuses (holds_of is_full c.verdict) Full codes.KdcErrSvcUnavailable  -- 29
    -- here the authenticator is recorded
    ∷ records_and_refuses (holds_of (is_not_yet_valid now) c.ticket) NotYetValid codes.KrbApErrTktNyv  -- 33; 3.2.3
    ∷ records_and_refuses (holds_of (has_ended now) c.ticket) TicketExpired codes.KrbApErrTktExpired  -- 32; 3.2.3
    ∷ []

-- the first row that holds decides
abbrev pub first_row : List Row → Option Row
first_row [] = None
first_row (row ∷ rows) = if row.holds then Some row else first_row rows
