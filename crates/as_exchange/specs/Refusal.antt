-- The error codes of refused AS-REQs (RFC 4120, section 7.5.9), and the names and places of their rules.
use Rattle.std.specs.Prelude.{ℕ, List, [], ◌∷◌, codes as octets}
use Rattle.krb_fields.specs.declared.code.Code.{Code}
use Rattle.krb_fields.specs.declared.code.Code as codes
use Rattle.as_exchange.specs.declared.refusal.AsRefusal.{AsRefusal}
use Rattle.as_exchange.specs.declared.refusal.AsRefusal.TheVariants.{BadVersion, BadMessageType, ClientUnknown}
use Rattle.as_exchange.specs.declared.refusal.AsRefusal.TheVariants.{ServiceUnknown, ServiceDenied, ClientDisabled}
use Rattle.as_exchange.specs.declared.refusal.AsRefusal.TheVariants.{ClientLocked, ClientExpired, PasswordExpired}
use Rattle.as_exchange.specs.declared.refusal.AsRefusal.TheVariants.{ServiceRevoked, ServiceExpired, BadOption}
use Rattle.as_exchange.specs.declared.refusal.AsRefusal.TheVariants.{NoCommonType, PreauthFailed, TimestampSkewed}
use Rattle.as_exchange.specs.declared.refusal.AsRefusal.TheVariants.{PreauthRequired, PostdatingRefused, StartsTooLate}
use Rattle.as_exchange.specs.declared.refusal.AsRefusal.TheVariants.{NeverValid}

abbrev pub code_of : AsRefusal → Code
code_of BadVersion = codes.TheVariants.KdcErrBadPvno
code_of BadMessageType = codes.TheVariants.KrbApErrMsgType
code_of ClientUnknown = codes.TheVariants.KdcErrCPrincipalUnknown
code_of ServiceUnknown = codes.TheVariants.KdcErrSPrincipalUnknown
code_of ServiceDenied = codes.TheVariants.KdcErrSPrincipalUnknown
code_of ClientDisabled = codes.TheVariants.KdcErrClientRevoked
code_of ClientLocked = codes.TheVariants.KdcErrClientRevoked
code_of ClientExpired = codes.TheVariants.KdcErrNameExp
code_of PasswordExpired = codes.TheVariants.KdcErrKeyExpired
code_of ServiceRevoked = codes.TheVariants.KdcErrServiceRevoked
code_of ServiceExpired = codes.TheVariants.KdcErrServiceExp
code_of BadOption = codes.TheVariants.KdcErrBadoption
code_of NoCommonType = codes.TheVariants.KdcErrEtypeNosupp
code_of PreauthFailed = codes.TheVariants.KdcErrPreauthFailed
code_of TimestampSkewed = codes.TheVariants.KrbApErrSkew
code_of PreauthRequired = codes.TheVariants.KdcErrPreauthRequired
code_of PostdatingRefused = codes.TheVariants.KdcErrPolicy
code_of StartsTooLate = codes.TheVariants.KdcErrCannotPostdate
code_of NeverValid = codes.TheVariants.KdcErrNeverValid

-- the name in the log and among the counters
abbrev pub word_of : AsRefusal → List ℕ
word_of BadVersion = octets "bad-version"
word_of BadMessageType = octets "bad-message-type"
word_of ClientUnknown = octets "client-unknown"
word_of ServiceUnknown = octets "service-unknown"
word_of ServiceDenied = octets "service-denied"
word_of ClientDisabled = octets "client-disabled"
word_of ClientLocked = octets "client-locked"
word_of ClientExpired = octets "client-expired"
word_of PasswordExpired = octets "password-expired"
word_of ServiceRevoked = octets "service-revoked"
word_of ServiceExpired = octets "service-expired"
word_of BadOption = octets "bad-option"
word_of NoCommonType = octets "no-common-type"
word_of PreauthFailed = octets "preauthentication-failed"
word_of TimestampSkewed = octets "timestamp-skewed"
word_of PreauthRequired = octets "preauthentication-required"
word_of PostdatingRefused = octets "postdating-refused"
word_of StartsTooLate = octets "starts-too-late"
word_of NeverValid = octets "never-valid"

-- ---- places

abbrev pub refusal_count : ℕ
refusal_count = 19

abbrev pub place_of : AsRefusal → ℕ
place_of BadVersion = 0
place_of BadMessageType = 1
place_of ClientUnknown = 2
place_of ServiceUnknown = 3
place_of ServiceDenied = 4
place_of ClientDisabled = 5
place_of ClientLocked = 6
place_of ClientExpired = 7
place_of PasswordExpired = 8
place_of ServiceRevoked = 9
place_of ServiceExpired = 10
place_of BadOption = 11
place_of NoCommonType = 12
place_of PreauthFailed = 13
place_of TimestampSkewed = 14
place_of PreauthRequired = 15
place_of PostdatingRefused = 16
place_of StartsTooLate = 17
place_of NeverValid = 18

-- each at its place
abbrev pub all_refusals : List AsRefusal
all_refusals =
    BadVersion ∷ BadMessageType ∷ ClientUnknown ∷ ServiceUnknown ∷ ServiceDenied ∷ ClientDisabled ∷ ClientLocked ∷
    ClientExpired ∷ PasswordExpired ∷ ServiceRevoked ∷ ServiceExpired ∷ BadOption ∷ NoCommonType ∷ PreauthFailed ∷
    TimestampSkewed ∷ PreauthRequired ∷ PostdatingRefused ∷ StartsTooLate ∷ NeverValid ∷ []
