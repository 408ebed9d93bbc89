-- Key usage numbers: RFC 4120, section 7.5.1; 0 for the keys in the database of MIT's KDC.
use Rattle.std.specs.Prelude.{ℕ}
use Rattle.krb_fields.specs.declared.numbers.TheConstants as numbers
use Rattle.enctypes.specs.declared.key_usage.KeyUsage.{KeyUsage}
use Rattle.enctypes.specs.declared.key_usage.KeyUsage.TheVariants.{PaEncTimestamp, Ticket}
use Rattle.enctypes.specs.declared.key_usage.KeyUsage.TheVariants.{AsRepEncPart, TgsReqAuthenticatorChecksum}
use Rattle.enctypes.specs.declared.key_usage.KeyUsage.TheVariants.{TgsReqAuthenticator, TgsRepEncPartSessionKey}
use Rattle.enctypes.specs.declared.key_usage.KeyUsage.TheVariants.{TgsRepEncPartSubkey, ApReqAuthenticatorChecksum}
use Rattle.enctypes.specs.declared.key_usage.KeyUsage.TheVariants.{ApReqAuthenticator, ApRepEncPart, StoredKey}

abbrev pub usage_number : KeyUsage → ℕ
usage_number PaEncTimestamp = numbers.USAGE_PA_ENC_TIMESTAMP
usage_number Ticket = numbers.USAGE_TICKET
usage_number AsRepEncPart = numbers.USAGE_AS_REP_ENC_PART
usage_number TgsReqAuthenticatorChecksum = numbers.USAGE_TGS_REQ_AUTHENTICATOR_CHECKSUM
usage_number TgsReqAuthenticator = numbers.USAGE_TGS_REQ_AUTHENTICATOR
usage_number TgsRepEncPartSessionKey = numbers.USAGE_TGS_REP_ENC_PART_SESSION_KEY
usage_number TgsRepEncPartSubkey = numbers.USAGE_TGS_REP_ENC_PART_SUBKEY
usage_number ApReqAuthenticatorChecksum = numbers.USAGE_AP_REQ_AUTHENTICATOR_CHECKSUM
usage_number ApReqAuthenticator = numbers.USAGE_AP_REQ_AUTHENTICATOR
usage_number ApRepEncPart = numbers.USAGE_AP_REP_ENC_PART
usage_number StoredKey = 0
