-- The fields of a log entry, by the audit record of the request.
use Rattle.std.specs.Prelude.{ℕ, ℤ, Bool, true, false, List, [], ◌∷◌, ◌++◌, codes, decimal, length, take, nat_lt}
use Rattle.std.specs.Prelude.{unsigned_abs}
use Rattle.std.specs.Prelude.{Option, Some, None, if◌then◌else◌}
use Rattle.std.specs.Net.Text.{socket_text}
use Rattle.std.specs.declared.net.socket_addr.SocketAddr.{SocketAddr}
use Rattle.enctypes.specs.Etype.{number}
use Rattle.enctypes.specs.declared.etype.Etype.{Etype}
use Rattle.krb_fields.specs.Code.{number_of}
use Rattle.krb_fields.specs.Flags.{has_bit}
use Rattle.krb_fields.specs.NameText.{text_of}
use Rattle.krb_fields.specs.PrincipalName.{Name}
use Rattle.krb_fields.specs.declared.code.Code.{Code as ErrorCode}
use Rattle.krb_fields.specs.declared.code.Code.TheVariants.{KrbErrResponseTooBig}
use Rattle.krb_fields.specs.declared.moment.Moment.{Moment}
use Rattle.replay.specs.declared.keep.Bears.{Bears}
use Rattle.replay.specs.declared.keep.Bears.TheVariants.{Ticket, Error}
use Rattle.as_exchange.specs.Refusal.{code_of as as_code, word_of as as_word}
use Rattle.as_exchange.specs.declared.outcome.AsOutcome.{AsOutcome}
use Rattle.as_exchange.specs.declared.outcome.AsOutcome.TheVariants.{Refused as AsRefused, Issued as AsIssued}
use Rattle.as_exchange.specs.declared.outcome.AsOutcome.TheVariants.{TooBig as AsTooBig}
use Rattle.tgs_opening.specs.Refusal.{code_of as tgs_code, word_of as tgs_word}
use Rattle.tgs_exchange.specs.declared.outcome.TgsOutcome.{TgsOutcome}
use Rattle.tgs_exchange.specs.declared.outcome.TgsOutcome.TheVariants.{Refused, Issued, Resent, TooBig}
use Rattle.kdc_replies.specs.declared.granted.Granted.{Granted}
use Rattle.ticket_times.specs.declared.times.Times.{Times}
use Rattle.kdc_core.specs.Audit.{AuditRecord}
use Rattle.kdc_core.specs.declared.audit.AuditRecord.TheVariants.{NoRequest, As, Tgs}
use Rattle.request_log.specs.Field.{Field, field}
use Rattle.request_log.specs.Times.{date_text, life_text, valid_seconds}
use Rattle.request_log.specs.Words.{code_word}
use Rattle.request_log.specs.declared.asker.Asker.{Asker}
use Rattle.request_log.specs.declared.asker.Transport.{Transport as Carrier}
use Rattle.request_log.specs.declared.asker.Transport.TheVariants.{Udp, Tcp}
use Rattle.request_log.specs.declared.field.FieldName.TheVariants.{Time, Peer, Transport, Exchange, Client, Service}
use Rattle.request_log.specs.declared.field.FieldName.TheVariants.{Outcome, Lifetime, Code, Reason, Rule}
use Rattle.request_log.specs.declared.field.FieldName.TheVariants.{Etype as Etypes}
use Rattle.request_log.specs.declared.field.FieldName.TheVariants.{Flags, Until, Renew, Repeat, Sent}

-- an entry: when the request came, who sent it, what the KDC made of it, or that memory ran out, and whether the reply
-- was sent
pub record LogEntry : Type 0 where
  pub at : Moment
  pub asker : Asker
  pub audit : Option AuditRecord
  pub is_sent : Bool

-- ---- values

-- an address and its port, or a dash where it is not known
abbrev pub peer_text : Option SocketAddr → List ℕ
peer_text (Some peer) = socket_text peer
peer_text None = codes "-"

abbrev pub carrier : Carrier → List ℕ
carrier Udp = codes "udp"
carrier Tcp = codes "tcp"

-- at most 200 bytes
abbrev pub cut : List ℕ → List ℕ
cut text = if nat_lt 200 (length text) then take 197 text ++ codes "..." else text

abbrev pub or_dash : List ℕ → List ℕ
or_dash [] = codes "-"
or_dash (o ∷ text) = o ∷ text

abbrev pub name_value : Option Name → List ℕ
name_value (Some name) = or_dash (cut (text_of name.components))
name_value None = codes "-"

abbrev pub etype_number : Etype → ℕ
etype_number etype = unsigned_abs (number etype)

-- the encryption types of the session key and of the service's key
abbrev pub etypes_value : Granted → List ℕ
etypes_value granted =
    decimal (etype_number granted.session_type) ++ codes "/" ++ decimal (etype_number granted.ticket_type)

abbrev pub letter : ℕ → ℕ → ℕ → List ℕ
letter flags bit code = if has_bit flags bit then code ∷ [] else []

-- the letters of `klist -f`, in its order: FfPpDdiRIHATO
abbrev pub first_letters : ℕ → List ℕ
first_letters flags =
    letter flags 1 70 ++ letter flags 2 102 ++ letter flags 3 80 ++ letter flags 4 112 ++ letter flags 5 68
    ++ letter flags 6 100

abbrev pub with_letters : List ℕ → ℕ → List ℕ
with_letters letters flags =
    letters ++ letter flags 7 105 ++ letter flags 8 82 ++ letter flags 9 73 ++ letter flags 11 72 ++ letter flags 10 65
    ++ letter flags 12 84 ++ letter flags 13 79

abbrev pub flags_value : ℕ → List ℕ
flags_value flags = or_dash (with_letters (first_letters flags) flags)

-- ---- the outcome of the request

abbrev pub renew_fields : Option ℤ → List Field
renew_fields (Some till) = field Renew (date_text till) ∷ []
renew_fields None = []

abbrev pub ends_fields : Times → List Field
ends_fields times = field Until (date_text times.end) ∷ renew_fields times.renew_till

abbrev pub terms_fields : Granted → List Field
terms_fields granted =
    field Etypes (etypes_value granted) ∷ field Flags (flags_value granted.flags) ∷ ends_fields granted.times

abbrev pub ticket_fields : Granted → List Field
ticket_fields granted =
    field Outcome (codes "ticket") ∷ field Lifetime (life_text (valid_seconds granted.times)) ∷ terms_fields granted

abbrev pub code_fields : ErrorCode → List Field
code_fields code =
    field Outcome (codes "refused") ∷ field Code (decimal (unsigned_abs (number_of code)))
    ∷ field Reason (code_word code) ∷ []

abbrev pub rule_fields : ErrorCode → List ℕ → List Field
rule_fields code rule = code_fields code ++ field Rule rule ∷ []

-- for a reply that was sent again, only whether it was a ticket or an error
abbrev pub again_fields : Bears → List Field
again_fields Ticket =
    field Outcome (codes "ticket") ∷ field Lifetime (codes "-") ∷ field Repeat (codes "yes") ∷ []
again_fields Error =
    field Outcome (codes "refused") ∷ field Code (codes "-") ∷ field Reason (codes "-") ∷ field Repeat (codes "yes")
    ∷ []

abbrev pub as_fields : AsOutcome → List Field
as_fields (AsRefused rule) = rule_fields (as_code rule) (as_word rule)
as_fields (AsIssued granted) = ticket_fields granted
as_fields AsTooBig = code_fields KrbErrResponseTooBig

abbrev pub tgs_fields : TgsOutcome → List Field
tgs_fields (Refused rule) = rule_fields (tgs_code rule) (tgs_word rule)
tgs_fields (Issued granted) = ticket_fields granted
tgs_fields (Resent bears) = again_fields bears
tgs_fields TooBig = code_fields KrbErrResponseTooBig

-- ---- the entry

abbrev pub names_fields : List ℕ → Option Name → Option Name → List Field
names_fields exchange client service =
    field Exchange exchange ∷ field Client (name_value client) ∷ field Service (name_value service) ∷ []

-- by the audit record, or `unanswered` if memory ran out
abbrev pub audit_fields : Option AuditRecord → List Field
audit_fields (Some NoRequest) = field Outcome (codes "none") ∷ []
audit_fields (Some (As client service outcome)) = names_fields (codes "as") client service ++ as_fields outcome
audit_fields (Some (Tgs client service outcome)) = names_fields (codes "tgs") client service ++ tgs_fields outcome
audit_fields None = field Outcome (codes "unanswered") ∷ []

abbrev pub head_fields : ℤ → Asker → List Field
head_fields sec asker =
    field Time (date_text sec) ∷ field Peer (peer_text asker.peer) ∷ field Transport (carrier asker.transport) ∷ []

-- whether the reply was sent, if it was not
abbrev pub sent_fields : Bool → List Field
sent_fields true = []
sent_fields false = field Sent (codes "no") ∷ []

-- what stands behind the head
abbrev pub outcome_fields : LogEntry → List Field
outcome_fields entry = audit_fields entry.audit ++ sent_fields entry.is_sent

abbrev pub entry_fields : LogEntry → List Field
entry_fields entry = head_fields entry.at.sec entry.asker ++ outcome_fields entry
