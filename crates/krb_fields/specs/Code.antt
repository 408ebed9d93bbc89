-- The numbers of the error codes (RFC 4120 section 7.5.9).
use Rattle.std.specs.Prelude.{ℤ}
use Rattle.krb_fields.specs.declared.numbers.TheConstants as numbers
use Rattle.krb_fields.specs.declared.code.Code.{Code}
use Rattle.krb_fields.specs.declared.code.Code.TheVariants.{
  KdcErrNameExp,
  KdcErrServiceExp,
  KdcErrBadPvno,
  KdcErrCPrincipalUnknown,
  KdcErrSPrincipalUnknown,
  KdcErrCannotPostdate,
  KdcErrNeverValid,
  KdcErrPolicy,
  KdcErrBadoption,
  KdcErrEtypeNosupp,
  KdcErrSumtypeNosupp,
  KdcErrPadataTypeNosupp,
  KdcErrClientRevoked,
  KdcErrServiceRevoked,
  KdcErrTgtRevoked,
  KdcErrKeyExpired,
  KdcErrPreauthFailed,
  KdcErrPreauthRequired,
  KdcErrServerNomatch,
  KdcErrSvcUnavailable,
  KrbApErrBadIntegrity,
  KrbApErrTktExpired,
  KrbApErrTktNyv,
  KrbApErrRepeat,
  KrbApErrNotUs,
  KrbApErrBadmatch,
  KrbApErrSkew,
  KrbApErrBadaddr,
  KrbApErrBadversion,
  KrbApErrMsgType,
  KrbApErrModified,
  KrbApErrBadkeyver,
  KrbApErrNokey,
  KrbApErrInappCksum,
  KrbApPathNotAccepted,
  KrbErrResponseTooBig,
  KrbErrGeneric,
  KrbErrFieldToolong,
}

abbrev pub number_of : Code → ℤ
number_of KdcErrNameExp = numbers.KDC_ERR_NAME_EXP
number_of KdcErrServiceExp = numbers.KDC_ERR_SERVICE_EXP
number_of KdcErrBadPvno = numbers.KDC_ERR_BAD_PVNO
number_of KdcErrCPrincipalUnknown = numbers.KDC_ERR_C_PRINCIPAL_UNKNOWN
number_of KdcErrSPrincipalUnknown = numbers.KDC_ERR_S_PRINCIPAL_UNKNOWN
number_of KdcErrCannotPostdate = numbers.KDC_ERR_CANNOT_POSTDATE
number_of KdcErrNeverValid = numbers.KDC_ERR_NEVER_VALID
number_of KdcErrPolicy = numbers.KDC_ERR_POLICY
number_of KdcErrBadoption = numbers.KDC_ERR_BADOPTION
number_of KdcErrEtypeNosupp = numbers.KDC_ERR_ETYPE_NOSUPP
number_of KdcErrSumtypeNosupp = numbers.KDC_ERR_SUMTYPE_NOSUPP
number_of KdcErrPadataTypeNosupp = numbers.KDC_ERR_PADATA_TYPE_NOSUPP
number_of KdcErrClientRevoked = numbers.KDC_ERR_CLIENT_REVOKED
number_of KdcErrServiceRevoked = numbers.KDC_ERR_SERVICE_REVOKED
number_of KdcErrTgtRevoked = numbers.KDC_ERR_TGT_REVOKED
number_of KdcErrKeyExpired = numbers.KDC_ERR_KEY_EXPIRED
number_of KdcErrPreauthFailed = numbers.KDC_ERR_PREAUTH_FAILED
number_of KdcErrPreauthRequired = numbers.KDC_ERR_PREAUTH_REQUIRED
number_of KdcErrServerNomatch = numbers.KDC_ERR_SERVER_NOMATCH
number_of KdcErrSvcUnavailable = numbers.KDC_ERR_SVC_UNAVAILABLE
number_of KrbApErrBadIntegrity = numbers.KRB_AP_ERR_BAD_INTEGRITY
number_of KrbApErrTktExpired = numbers.KRB_AP_ERR_TKT_EXPIRED
number_of KrbApErrTktNyv = numbers.KRB_AP_ERR_TKT_NYV
number_of KrbApErrRepeat = numbers.KRB_AP_ERR_REPEAT
number_of KrbApErrNotUs = numbers.KRB_AP_ERR_NOT_US
number_of KrbApErrBadmatch = numbers.KRB_AP_ERR_BADMATCH
number_of KrbApErrSkew = numbers.KRB_AP_ERR_SKEW
number_of KrbApErrBadaddr = numbers.KRB_AP_ERR_BADADDR
number_of KrbApErrBadversion = numbers.KRB_AP_ERR_BADVERSION
number_of KrbApErrMsgType = numbers.KRB_AP_ERR_MSG_TYPE
number_of KrbApErrModified = numbers.KRB_AP_ERR_MODIFIED
number_of KrbApErrBadkeyver = numbers.KRB_AP_ERR_BADKEYVER
number_of KrbApErrNokey = numbers.KRB_AP_ERR_NOKEY
number_of KrbApErrInappCksum = numbers.KRB_AP_ERR_INAPP_CKSUM
number_of KrbApPathNotAccepted = numbers.KRB_AP_PATH_NOT_ACCEPTED
number_of KrbErrResponseTooBig = numbers.KRB_ERR_RESPONSE_TOO_BIG
number_of KrbErrGeneric = numbers.KRB_ERR_GENERIC
number_of KrbErrFieldToolong = numbers.KRB_ERR_FIELD_TOOLONG
