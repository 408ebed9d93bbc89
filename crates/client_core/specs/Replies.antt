-- How a client reads a KDC's reply (RFC 4120, sections 3.1.5 and 3.3.4): a list of rules for each stage.
use Rattle.std.specs.Prelude.{ℕ, ℤ, pos, ◌-ℤ◌, unsigned_abs, int_lt, nat_lt, nat_eq, Bool, not, ◌&&◌, ◌||◌}
use Rattle.std.specs.Prelude.{if◌then◌else◌, List, [], ◌∷◌, Option, Some, None, Result, Ok, Err}
use Rattle.std.specs.Ordering.{int_eq, eq_by_cmp}
use Rattle.std.specs.Cmp.Lexicographic.{pointwise}
use Rattle.rule_lists.specs.Optional.{holds_of}
use Rattle.rule_lists.specs.Refusals.{Rule, decided, unless_found}
use Rattle.cred_files.specs.declared.credential.Credential.{Credential}
use Rattle.enctypes.specs.Etype.{number}
use Rattle.enctypes.specs.KeyUsage.{usage_number}
use Rattle.enctypes.specs.declared.key.Key.{Key}
use Rattle.enctypes.specs.declared.key_usage.KeyUsage.TheVariants.{AsRepEncPart, TgsRepEncPartSessionKey}
use Rattle.enctypes.specs.declared.key_usage.KeyUsage.TheVariants.{TgsRepEncPartSubkey}
use Rattle.krb_elements.specs.Format.{whole}
use Rattle.krb_fields.specs.declared.numbers.TheConstants.{PVNO, AS_REP, TGS_REP, ENC_AS_REP_PART, ENC_TGS_REP_PART}
use Rattle.krb_fields.specs.EncryptedData.{EncryptedData}
use Rattle.krb_fields.specs.Flags.{has_bit}
use Rattle.krb_fields.specs.KdcOption.{kdc_option_number}
use Rattle.krb_fields.specs.declared.kdc_option.KdcOption.{KdcOption}
use Rattle.krb_fields.specs.declared.kdc_option.KdcOption.TheVariants.{Postdated, Renew, Validate}
use Rattle.krb_fields.specs.Name.{name_cmp}
use Rattle.krb_fields.specs.PrincipalName.{Name}
use Rattle.krb_fields.specs.Skew.{skew}
use Rattle.krb_types.specs.EncKdcRepPart.{EncKdcRepPart, enc_kdc_rep_part}
use Rattle.krb_types.specs.KdcRep.{KdcRep, kdc_rep}
use Rattle.krb_types.specs.Under.{under}
use Rattle.krb_types.specs.KrbError.{KrbError, krb_error}
use Rattle.krb_types.specs.Ticket.{Ticket}
use Rattle.encrypted_data.specs.Encrypted.{decrypted}
use Rattle.encrypted_data.specs.Parts.{ok_of}
use Rattle.client_core.specs.declared.asked.Asked.{Asked}
use Rattle.client_core.specs.declared.fault.ReplyError.{ReplyError}
use Rattle.client_core.specs.declared.fault.ReplyError.TheVariants.{NotAReply, Refused}
use Rattle.client_core.specs.declared.fault.Mismatch.TheVariants as mismatches
use Rattle.client_core.specs.declared.fault.ReplyRefusal.{ReplyRefusal}
use Rattle.client_core.specs.declared.fault.ServerError.{ServerError}
use Rattle.client_core.specs.declared.fault.ReplyRefusal.TheVariants.{Mismatched, Unopened}
use Rattle.client_core.specs.declared.key_role.KeyRole.{KeyRole}
use Rattle.client_core.specs.declared.key_role.KeyRole.TheVariants.{Client, Subkey, Session}
use Rattle.client_core.specs.Credentials.{credential_in}
use Rattle.client_core.specs.Faults.{unless_rejected}

-- ---- the message

-- the error and the server's clock, in seconds since 1970
abbrev pub server_error : KrbError → ServerError
server_error error = record { code = error.error_code; stime = error.stime }

-- the refusal in a KRB-ERROR; other bytes are not a reply
abbrev pub refusal_of : Option KrbError → ReplyError
refusal_of (Some error) = Refused (record { error = server_error error; e_data = error.e_data })
refusal_of None = NotAReply

abbrev pub refusal_in : List ℕ → ReplyError
refusal_in bytes = refusal_of (ok_of (whole krb_error.at bytes))

-- the ticket has the version of the protocol, like the reply
abbrev pub of_version : (type : ℕ) → Option (KdcRep type) → Option (KdcRep type)
of_version type (Some reply) = if int_eq reply.ticket.tkt_vno PVNO then Some reply else None
of_version type None = None

-- the AS-REP (type 11) or TGS-REP (type 13) that the bytes encode
abbrev pub ticket_reply_in : (type : ℕ) → List ℕ → Option (KdcRep type)
ticket_reply_in type bytes = of_version type (ok_of (whole (kdc_rep type).at bytes))

-- the AS-REP or TGS-REP, or what the bytes are instead
abbrev pub reply_in : (type : ℕ) → List ℕ → Result (KdcRep type) ReplyError
reply_in type bytes = unless_found (ticket_reply_in type bytes) (refusal_in bytes)

-- ---- the encrypted part

-- the part in the tag [APPLICATION tag], if the key decrypts it
abbrev pub opened_in : ℕ → Key → ℕ → EncryptedData → Option EncKdcRepPart
opened_in tag key usage sealed = decrypted (under tag enc_kdc_rep_part) key usage sealed

abbrev pub or_else : Option EncKdcRepPart → Option EncKdcRepPart → Option EncKdcRepPart
or_else (Some part) other = Some part
or_else None other = other

-- For an AS-REP: under the client's key, in its own tag or, as some KDCs send it, in that of the other exchange
-- (section 5.4.2).
abbrev pub as_part : Key → EncryptedData → Option EncKdcRepPart
as_part key sealed =
    or_else (opened_in ENC_AS_REP_PART key (usage_number AsRepEncPart) sealed)
    (opened_in ENC_TGS_REP_PART key (usage_number AsRepEncPart) sealed)

-- For a TGS-REP: under the subkey of the request's authenticator, else under the session key.
abbrev pub opened_as : KeyRole → Key → EncryptedData → Option EncKdcRepPart
opened_as Client key sealed = as_part key sealed
opened_as Subkey key sealed = opened_in ENC_TGS_REP_PART key (usage_number TgsRepEncPartSubkey) sealed
opened_as Session key sealed = opened_in ENC_TGS_REP_PART key (usage_number TgsRepEncPartSessionKey) sealed

-- names are compared by their components: the name-type is a hint (section 6.2)
abbrev pub is_principal : List ℕ → Name → List ℕ → Name → Bool
is_principal realm name other_realm other_name =
    pointwise nat_eq realm other_realm && eq_by_cmp name_cmp name.components other_name.components

abbrev pub reply_rules : (type : ℕ) → Asked → Key → KdcRep type → List (Rule ReplyRefusal)
reply_rules type asked key reply =
    (not (is_principal reply.crealm reply.cname asked.realm asked.client), Mismatched mismatches.Client)
    ∷ (not (int_eq reply.enc_part.etype (number key.etype)), Unopened)
    ∷ []

-- the decrypted part, if it is this client's and under this key
abbrev pub part_of : (type : ℕ) → Asked → Key → KdcRep type → Option EncKdcRepPart → Result EncKdcRepPart ReplyRefusal
part_of type asked key reply opened = decided (reply_rules type asked key reply) opened Unopened

-- ---- the contents of the part

-- the part answers another request
abbrev pub is_other_nonce : Asked → EncKdcRepPart → Bool
is_other_nonce asked part = not (int_eq part.nonce (pos asked.nonce))

-- the part's service, or the ticket's, is not the requested one
abbrev pub is_other_service : Asked → Ticket → EncKdcRepPart → Bool
is_other_service asked ticket part =
    not (is_principal part.srealm part.sname asked.realm asked.service)
    || not (is_principal ticket.realm ticket.sname asked.realm asked.service)

abbrev pub has_option : Asked → KdcOption → Bool
has_option asked option = has_bit asked.options (kdc_option_number option)

-- the ticket ends later than requested; a till of zero requests no bound
abbrev pub ends_too_late : Asked → EncKdcRepPart → Bool
ends_too_late asked part = not (int_eq asked.till (pos 0)) && int_lt asked.till part.endtime

-- the request may be for a ticket that starts at another time
abbrev pub may_start_elsewhere : Asked → Bool
may_start_elsewhere asked = has_option asked Postdated || has_option asked Renew || has_option asked Validate

-- outside the clock skew
abbrev pub is_skewed : ℤ → ℤ → Bool
is_skewed now time = nat_lt skew (unsigned_abs (time -ℤ now))

abbrev pub starts_elsewhere : Asked → ℤ → EncKdcRepPart → Bool
starts_elsewhere asked now part = not (may_start_elsewhere asked) && holds_of (is_skewed now) part.starttime

abbrev pub part_rules : Asked → ℤ → Ticket → EncKdcRepPart → List (Rule ReplyRefusal)
part_rules asked now ticket part =
    (is_other_nonce asked part, Mismatched mismatches.Nonce)
    ∷ (is_other_service asked ticket part, Mismatched mismatches.Service)
    ∷ (ends_too_late asked part || starts_elsewhere asked now part, Mismatched mismatches.Times)
    ∷ []

abbrev pub taken : (type : ℕ) → Asked → ℤ → KdcRep type → EncKdcRepPart → Result Credential ReplyRefusal
taken type asked now reply part =
    decided (part_rules asked now reply.ticket part) (credential_in type reply part) Unopened

-- ---- all stages

abbrev pub if_part : (type : ℕ) → Asked → ℤ → KdcRep type → Result EncKdcRepPart ReplyRefusal
    → Result Credential ReplyRefusal
if_part type asked now reply (Ok part) = taken type asked now reply part
if_part type asked now reply (Err rejection) = Err rejection

-- the credential in a reply, or the first fault
abbrev pub judged : (type : ℕ) → KeyRole → Asked → Key → ℤ → KdcRep type → Result Credential ReplyError
judged type role asked key now reply =
    unless_rejected (if_part type asked now reply (part_of type asked key reply (opened_as role key reply.enc_part)))

abbrev pub if_reply : (type : ℕ) → KeyRole → Asked → Key → ℤ → Result (KdcRep type) ReplyError
    → Result Credential ReplyError
if_reply type role asked key now (Ok reply) = judged type role asked key now reply
if_reply type role asked key now (Err fault) = Err fault

-- the credential in the reply, or the first fault
abbrev pub reads : (type : ℕ) → KeyRole → Asked → Key → ℤ → List ℕ → Result Credential ReplyError
reads type role asked key now bytes = if_reply type role asked key now (reply_in type bytes)

abbrev pub reads_as : Asked → Key → ℤ → List ℕ → Result Credential ReplyError
reads_as asked key now bytes = reads AS_REP Client asked key now bytes

abbrev pub tgs_role : Bool → KeyRole
tgs_role subkey = if subkey then Subkey else Session

abbrev pub reads_tgs : Asked → Key → Bool → ℤ → List ℕ → Result Credential ReplyError
reads_tgs asked key subkey now bytes = reads TGS_REP (tgs_role subkey) asked key now bytes
