-- The authenticator's checksum over the application's data (RFC 4120, section 5.5.1).
use Rattle.std.specs.Prelude.{ℕ, Bool, not, nat_eq, if◌then◌else◌, List, Option, Some, None}
use Rattle.std.specs.Cmp.Lexicographic.{pointwise}
use Rattle.std.specs.Ordering.{int_eq}
use Rattle.enctypes.specs.Etype.{checksum_type}
use Rattle.enctypes.specs.KeyUsage.{usage_number}
use Rattle.enctypes.specs.Sealing.{mac}
use Rattle.enctypes.specs.declared.key.Key.{Key}
use Rattle.enctypes.specs.declared.key_usage.KeyUsage.TheVariants.{ApReqAuthenticatorChecksum}
use Rattle.krb_fields.specs.Typed.{Typed}
use Rattle.krb_fields.specs.declared.code.Code.{Code}
use Rattle.krb_fields.specs.declared.code.Code.TheVariants as codes
use Rattle.ap_accept.specs.declared.checksum.ChecksumVerdict.{ChecksumVerdict}
use Rattle.ap_accept.specs.declared.checksum.ChecksumVerdict.TheVariants.{Matches, Absent, OtherType, Modified}

abbrev pub is_other_type : Key → Typed → Bool
is_other_type key cksum = not (int_eq cksum.number (checksum_type key.etype))

-- it is not the checksum of these bytes
abbrev pub is_modified : Key → List ℕ → Typed → Bool
is_modified key octets cksum =
    not (pointwise nat_eq cksum.octets (mac key.etype key.bytes (usage_number ApReqAuthenticatorChecksum) octets))

abbrev pub verdict_by : Key → List ℕ → Typed → ChecksumVerdict
verdict_by key octets cksum =
    if is_other_type key cksum then OtherType
    else if is_modified key octets cksum then Modified
    else Matches

-- what it is, as a checksum of these bytes with the session key
abbrev pub checksum_verdict : Key → Option Typed → List ℕ → ChecksumVerdict
checksum_verdict key (Some cksum) octets = verdict_by key octets cksum
checksum_verdict key None octets = Absent

-- section 7.5.9
abbrev pub code_of_verdict : ChecksumVerdict → Option Code
code_of_verdict Matches = None
code_of_verdict Absent = Some codes.KrbApErrInappCksum
code_of_verdict OtherType = Some codes.KrbApErrInappCksum
code_of_verdict Modified = Some codes.KrbApErrModified
