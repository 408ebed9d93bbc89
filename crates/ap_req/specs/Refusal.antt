-- The error codes of refused AP-REQs (RFC 4120, section 7.5.9), and the names and places of their rules.
use Rattle.std.specs.Prelude.{ℕ, List, [], ◌∷◌, codes as octets}
use Rattle.krb_fields.specs.declared.code.Code.{Code}
use Rattle.krb_fields.specs.declared.code.Code as codes
use Rattle.ap_req.specs.declared.refusal.ApRefusal.{ApRefusal}
use Rattle.ap_req.specs.declared.refusal.ApRefusal.TheVariants.{BadVersion, BadMessageType, SessionKeyAsked}
use Rattle.ap_req.specs.declared.refusal.ApRefusal.TheVariants.{NotForUs, NoKey, BadKeyVersion, TicketNotOpened}
use Rattle.ap_req.specs.declared.refusal.ApRefusal.TheVariants.{ForeignClient, BoundAddress, BadSessionKey}
use Rattle.ap_req.specs.declared.refusal.ApRefusal.TheVariants.{AuthenticatorNotOpened, BadMatch, BadSubkey}
use Rattle.ap_req.specs.declared.refusal.ApRefusal.TheVariants.{Skewed, Repeated, Full, NotYetValid, TicketExpired}

-- the code that a server answers with, given its code for a foreign client
abbrev pub code_by : Code → ApRefusal → Code
code_by foreign_client BadVersion = codes.TheVariants.KrbApErrBadversion
code_by foreign_client BadMessageType = codes.TheVariants.KrbApErrMsgType
code_by foreign_client SessionKeyAsked = codes.TheVariants.KrbApErrNokey
code_by foreign_client NotForUs = codes.TheVariants.KrbApErrNotUs
code_by foreign_client NoKey = codes.TheVariants.KrbApErrNokey
code_by foreign_client BadKeyVersion = codes.TheVariants.KrbApErrBadkeyver
code_by foreign_client TicketNotOpened = codes.TheVariants.KrbApErrBadIntegrity
code_by foreign_client ForeignClient = foreign_client
code_by foreign_client BoundAddress = codes.TheVariants.KrbApErrBadaddr
code_by foreign_client BadSessionKey = codes.TheVariants.KdcErrEtypeNosupp
code_by foreign_client AuthenticatorNotOpened = codes.TheVariants.KrbApErrBadIntegrity
code_by foreign_client BadMatch = codes.TheVariants.KrbApErrBadmatch
code_by foreign_client BadSubkey = codes.TheVariants.KdcErrEtypeNosupp
code_by foreign_client Skewed = codes.TheVariants.KrbApErrSkew
code_by foreign_client Repeated = codes.TheVariants.KrbApErrRepeat
code_by foreign_client Full = codes.TheVariants.KdcErrSvcUnavailable
code_by foreign_client NotYetValid = codes.TheVariants.KrbApErrTktNyv
code_by foreign_client TicketExpired = codes.TheVariants.KrbApErrTktExpired

-- the code that a service answers with
abbrev pub code_of : ApRefusal → Code
code_of = code_by codes.TheVariants.KrbApPathNotAccepted

-- the name in the log and among the counters
abbrev pub word_of : ApRefusal → List ℕ
word_of BadVersion = octets "bad-ticket-version"
word_of BadMessageType = octets "bad-ap-message-type"
word_of SessionKeyAsked = octets "session-key-asked"
word_of NotForUs = octets "not-for-us"
word_of NoKey = octets "no-key"
word_of BadKeyVersion = octets "bad-key-version"
word_of TicketNotOpened = octets "ticket-not-opened"
word_of ForeignClient = octets "foreign-client"
word_of BoundAddress = octets "bound-address"
word_of BadSessionKey = octets "bad-session-key"
word_of AuthenticatorNotOpened = octets "authenticator-not-opened"
word_of BadMatch = octets "bad-match"
word_of BadSubkey = octets "bad-subkey"
word_of Skewed = octets "skewed"
word_of Repeated = octets "repeated"
word_of Full = octets "full"
word_of NotYetValid = octets "not-yet-valid"
word_of TicketExpired = octets "ticket-expired"

-- ---- places

abbrev pub refusal_count : ℕ
refusal_count = 18

abbrev pub place_of : ApRefusal → ℕ
place_of BadVersion = 0
place_of BadMessageType = 1
place_of SessionKeyAsked = 2
place_of NotForUs = 3
place_of NoKey = 4
place_of BadKeyVersion = 5
place_of TicketNotOpened = 6
place_of ForeignClient = 7
place_of BoundAddress = 8
place_of BadSessionKey = 9
place_of AuthenticatorNotOpened = 10
place_of BadMatch = 11
place_of BadSubkey = 12
place_of Skewed = 13
place_of Repeated = 14
place_of Full = 15
place_of NotYetValid = 16
place_of TicketExpired = 17

-- each at its place
abbrev pub all_refusals : List ApRefusal
all_refusals =
    BadVersion ∷ BadMessageType ∷ SessionKeyAsked ∷ NotForUs ∷ NoKey ∷ BadKeyVersion ∷ TicketNotOpened ∷
    ForeignClient ∷ BoundAddress ∷ BadSessionKey ∷ AuthenticatorNotOpened ∷ BadMatch ∷ BadSubkey ∷ Skewed ∷ Repeated ∷
    Full ∷ NotYetValid ∷ TicketExpired ∷ []
