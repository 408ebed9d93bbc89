-- The error codes of refused TGS-REQs (RFC 4120, section 7.5.9), and the names and places of their rules.
use Rattle.std.specs.Prelude.{ℕ, ◌+◌, List, [], ◌∷◌, ◌++◌, map, Result, Ok, Err, codes as octets}
use Rattle.krb_fields.specs.declared.code.Code.{Code}
use Rattle.krb_fields.specs.declared.code.Code as codes
use Rattle.ap_req.specs.Refusal.{code_by}
use Rattle.ap_req.specs.Refusal as ap_refusals
use Rattle.ap_req.specs.declared.refusal.ApRefusal.{ApRefusal}
use Rattle.tgs_opening.specs.declared.refusal.TgsRefusal.{TgsRefusal}
use Rattle.tgs_opening.specs.declared.refusal.TgsRefusal.TheVariants.{BadVersion, BadMessageType, NoApReq}
use Rattle.tgs_opening.specs.declared.refusal.TgsRefusal.TheVariants.{MalformedApReq, Ap, NoChecksum, BadChecksumType}
use Rattle.tgs_opening.specs.declared.refusal.TgsRefusal.TheVariants.{Modified, ClientUnknown, ClientDisabled}
use Rattle.tgs_opening.specs.declared.refusal.TgsRefusal.TheVariants.{ClientExpired, TicketRevoked, ServiceUnknown}
use Rattle.tgs_opening.specs.declared.refusal.TgsRefusal.TheVariants.{ServiceDenied, ServiceRevoked, ServiceExpired}
use Rattle.tgs_opening.specs.declared.refusal.TgsRefusal.TheVariants.{OtherService, AuthorizationData, BadOption}
use Rattle.tgs_opening.specs.declared.refusal.TgsRefusal.TheVariants.{NothingToValidate, ValidatedTooEarly}
use Rattle.tgs_opening.specs.declared.refusal.TgsRefusal.TheVariants.{RenewedTooLate, NoCommonType, StartsTooLate}
use Rattle.tgs_opening.specs.declared.refusal.TgsRefusal.TheVariants.{NeverValid}

abbrev pub code_of : TgsRefusal → Code
code_of BadVersion = codes.TheVariants.KdcErrBadPvno
code_of BadMessageType = codes.TheVariants.KrbApErrMsgType
code_of NoApReq = codes.TheVariants.KdcErrPadataTypeNosupp
code_of MalformedApReq = codes.TheVariants.KrbErrGeneric
code_of (Ap refusal) = code_by codes.TheVariants.KdcErrPolicy refusal
code_of NoChecksum = codes.TheVariants.KrbApErrInappCksum
code_of BadChecksumType = codes.TheVariants.KdcErrSumtypeNosupp
code_of Modified = codes.TheVariants.KrbApErrModified
code_of ClientUnknown = codes.TheVariants.KdcErrCPrincipalUnknown
code_of ClientDisabled = codes.TheVariants.KdcErrClientRevoked
code_of ClientExpired = codes.TheVariants.KdcErrNameExp
code_of TicketRevoked = codes.TheVariants.KdcErrTgtRevoked
code_of ServiceUnknown = codes.TheVariants.KdcErrSPrincipalUnknown
code_of ServiceDenied = codes.TheVariants.KdcErrSPrincipalUnknown
code_of ServiceRevoked = codes.TheVariants.KdcErrServiceRevoked
code_of ServiceExpired = codes.TheVariants.KdcErrServiceExp
code_of OtherService = codes.TheVariants.KdcErrServerNomatch
code_of AuthorizationData = codes.TheVariants.KdcErrPolicy
code_of BadOption = codes.TheVariants.KdcErrBadoption
code_of NothingToValidate = codes.TheVariants.KdcErrPolicy
code_of ValidatedTooEarly = codes.TheVariants.KrbApErrTktNyv
code_of RenewedTooLate = codes.TheVariants.KrbApErrTktExpired
code_of NoCommonType = codes.TheVariants.KdcErrEtypeNosupp
code_of StartsTooLate = codes.TheVariants.KdcErrCannotPostdate
code_of NeverValid = codes.TheVariants.KdcErrNeverValid

-- the same result for the ticket-granting service
abbrev pub by_ap : {A : Type 0} → Result A ApRefusal → Result A TgsRefusal
by_ap (Ok x) = Ok x
by_ap (Err refusal) = Err (Ap refusal)

-- the name in the log and among the counters
abbrev pub word_of : TgsRefusal → List ℕ
word_of BadVersion = octets "bad-version"
word_of BadMessageType = octets "bad-message-type"
word_of NoApReq = octets "no-ap-req"
word_of MalformedApReq = octets "malformed-ap-req"
word_of (Ap refusal) = ap_refusals.word_of refusal
word_of NoChecksum = octets "no-checksum"
word_of BadChecksumType = octets "bad-checksum-type"
word_of Modified = octets "modified"
word_of ClientUnknown = octets "client-unknown"
word_of ClientDisabled = octets "client-disabled"
word_of ClientExpired = octets "client-expired"
word_of TicketRevoked = octets "ticket-revoked"
word_of ServiceUnknown = octets "service-unknown"
word_of ServiceDenied = octets "service-denied"
word_of ServiceRevoked = octets "service-revoked"
word_of ServiceExpired = octets "service-expired"
word_of OtherService = octets "other-service"
word_of AuthorizationData = octets "authorization-data"
word_of BadOption = octets "bad-option"
word_of NothingToValidate = octets "nothing-to-validate"
word_of ValidatedTooEarly = octets "validated-too-early"
word_of RenewedTooLate = octets "renewed-too-late"
word_of NoCommonType = octets "no-common-type"
word_of StartsTooLate = octets "starts-too-late"
word_of NeverValid = octets "never-valid"

-- ---- places

abbrev own_count : ℕ
own_count = 24

abbrev pub refusal_count : ℕ
refusal_count = own_count + ap_refusals.refusal_count

-- first those of this exchange alone, then those of every AP-REQ
abbrev pub place_of : TgsRefusal → ℕ
place_of BadVersion = 0
place_of BadMessageType = 1
place_of NoApReq = 2
place_of MalformedApReq = 3
place_of NoChecksum = 4
place_of BadChecksumType = 5
place_of Modified = 6
place_of ClientUnknown = 7
place_of ClientDisabled = 8
place_of ClientExpired = 9
place_of TicketRevoked = 10
place_of ServiceUnknown = 11
place_of ServiceDenied = 12
place_of ServiceRevoked = 13
place_of ServiceExpired = 14
place_of OtherService = 15
place_of AuthorizationData = 16
place_of BadOption = 17
place_of NothingToValidate = 18
place_of ValidatedTooEarly = 19
place_of RenewedTooLate = 20
place_of NoCommonType = 21
place_of StartsTooLate = 22
place_of NeverValid = 23
place_of (Ap refusal) = own_count + ap_refusals.place_of refusal

abbrev pub own_refusals : List TgsRefusal
own_refusals =
    BadVersion ∷ BadMessageType ∷ NoApReq ∷ MalformedApReq ∷ NoChecksum ∷ BadChecksumType ∷ Modified ∷ ClientUnknown ∷
    ClientDisabled ∷ ClientExpired ∷ TicketRevoked ∷ ServiceUnknown ∷ ServiceDenied ∷ ServiceRevoked ∷ ServiceExpired ∷
    OtherService ∷ AuthorizationData ∷ BadOption ∷ NothingToValidate ∷ ValidatedTooEarly ∷ RenewedTooLate ∷
    NoCommonType ∷ StartsTooLate ∷ NeverValid ∷ []

-- each at its place
abbrev pub all_refusals : List TgsRefusal
all_refusals = own_refusals ++ map Ap ap_refusals.all_refusals
