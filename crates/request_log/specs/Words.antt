-- The words for error codes.
use Rattle.std.specs.Prelude.{ℕ, List, codes}
use Rattle.krb_fields.specs.declared.code.Code.{Code}
use Rattle.krb_fields.specs.declared.code.Code.TheVariants.{KdcErrNameExp, KdcErrServiceExp, KdcErrBadPvno}
use Rattle.krb_fields.specs.declared.code.Code.TheVariants.{KdcErrCPrincipalUnknown, KdcErrSPrincipalUnknown}
use Rattle.krb_fields.specs.declared.code.Code.TheVariants.{KdcErrCannotPostdate, KdcErrNeverValid, KdcErrPolicy}
use Rattle.krb_fields.specs.declared.code.Code.TheVariants.{KdcErrBadoption, KdcErrEtypeNosupp}
use Rattle.krb_fields.specs.declared.code.Code.TheVariants.{KdcErrSumtypeNosupp, KdcErrPadataTypeNosupp}
use Rattle.krb_fields.specs.declared.code.Code.TheVariants.{KdcErrClientRevoked, KdcErrServiceRevoked, KdcErrTgtRevoked}
use Rattle.krb_fields.specs.declared.code.Code.TheVariants.{KdcErrKeyExpired, KdcErrPreauthFailed}
use Rattle.krb_fields.specs.declared.code.Code.TheVariants.{KdcErrPreauthRequired, KdcErrServerNomatch}
use Rattle.krb_fields.specs.declared.code.Code.TheVariants.{KdcErrSvcUnavailable}
use Rattle.krb_fields.specs.declared.code.Code.TheVariants.{KrbApErrBadIntegrity, KrbApErrTktExpired, KrbApErrTktNyv}
use Rattle.krb_fields.specs.declared.code.Code.TheVariants.{KrbApErrRepeat, KrbApErrNotUs}
use Rattle.krb_fields.specs.declared.code.Code.TheVariants.{KrbApErrBadmatch, KrbApErrSkew, KrbApErrBadaddr}
use Rattle.krb_fields.specs.declared.code.Code.TheVariants.{KrbApErrBadversion, KrbApErrMsgType}
use Rattle.krb_fields.specs.declared.code.Code.TheVariants.{KrbApErrModified, KrbApErrBadkeyver, KrbApErrNokey}
use Rattle.krb_fields.specs.declared.code.Code.TheVariants.{KrbApErrInappCksum, KrbApPathNotAccepted}
use Rattle.krb_fields.specs.declared.code.Code.TheVariants.{KrbErrResponseTooBig, KrbErrGeneric, KrbErrFieldToolong}

-- the word for an error code
abbrev pub code_word : Code → List ℕ
code_word KdcErrNameExp = codes "client-expired"
code_word KdcErrServiceExp = codes "service-expired"
code_word KdcErrBadPvno = codes "bad-version"
code_word KdcErrCPrincipalUnknown = codes "client-unknown"
code_word KdcErrSPrincipalUnknown = codes "service-unknown"
code_word KdcErrCannotPostdate = codes "cannot-postdate"
code_word KdcErrNeverValid = codes "never-valid"
code_word KdcErrPolicy = codes "policy"
code_word KdcErrBadoption = codes "bad-option"
code_word KdcErrEtypeNosupp = codes "no-common-type"
code_word KdcErrSumtypeNosupp = codes "no-checksum-type"
code_word KdcErrPadataTypeNosupp = codes "no-padata-type"
code_word KdcErrClientRevoked = codes "client-revoked"
code_word KdcErrServiceRevoked = codes "service-revoked"
code_word KdcErrTgtRevoked = codes "ticket-revoked"
code_word KdcErrKeyExpired = codes "password-expired"
code_word KdcErrPreauthFailed = codes "preauthentication-failed"
code_word KdcErrPreauthRequired = codes "preauthentication-required"
code_word KdcErrServerNomatch = codes "service-mismatch"
code_word KdcErrSvcUnavailable = codes "unavailable"
code_word KrbApErrBadIntegrity = codes "bad-integrity"
code_word KrbApErrTktExpired = codes "ticket-expired"
code_word KrbApErrTktNyv = codes "ticket-not-yet-valid"
code_word KrbApErrRepeat = codes "repeat"
code_word KrbApErrNotUs = codes "ticket-not-for-us"
code_word KrbApErrBadmatch = codes "ticket-mismatch"
code_word KrbApErrSkew = codes "clock-skew"
code_word KrbApErrBadaddr = codes "bad-address"
code_word KrbApErrBadversion = codes "bad-version"
code_word KrbApErrMsgType = codes "bad-message-type"
code_word KrbApErrModified = codes "modified"
code_word KrbApErrBadkeyver = codes "no-key-of-that-version"
code_word KrbApErrNokey = codes "no-key"
code_word KrbApErrInappCksum = codes "unfit-checksum"
code_word KrbApPathNotAccepted = codes "path-not-accepted"
code_word KrbErrResponseTooBig = codes "response-too-big"
code_word KrbErrGeneric = codes "generic"
code_word KrbErrFieldToolong = codes "field-too-long"
