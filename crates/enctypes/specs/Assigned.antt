-- The numbers of encryption types, checksum types and key usages, in digits.
use Rattle.std.specs.Prelude.{◌≡◌, pos}
use Rattle.enctypes.specs.Etype.{checksum_type, number}
use Rattle.enctypes.specs.KeyUsage.{usage_number}
use Rattle.enctypes.specs.declared.etype.Etype.TheVariants.{Aes128CtsHmacSha1_96, Aes256CtsHmacSha1_96}
use Rattle.enctypes.specs.declared.etype.Etype.TheVariants.{Aes128CtsHmacSha256_128, Aes256CtsHmacSha384_192}
use Rattle.enctypes.specs.declared.key_usage.KeyUsage.TheVariants.{ApRepEncPart, ApReqAuthenticator}
use Rattle.enctypes.specs.declared.key_usage.KeyUsage.TheVariants.{ApReqAuthenticatorChecksum}
use Rattle.enctypes.specs.declared.key_usage.KeyUsage.TheVariants.{AsRepEncPart, PaEncTimestamp, StoredKey}
use Rattle.enctypes.specs.declared.key_usage.KeyUsage.TheVariants.{TgsRepEncPartSessionKey}
use Rattle.enctypes.specs.declared.key_usage.KeyUsage.TheVariants.{TgsRepEncPartSubkey, TgsReqAuthenticator}
use Rattle.enctypes.specs.declared.key_usage.KeyUsage.TheVariants.{TgsReqAuthenticatorChecksum, Ticket}

-- RFC 3962, section 7; RFC 8009, sections 5 and 6
pub record EtypeNumbers : Type 0 where
  pub aes128_sha1 : number Aes128CtsHmacSha1_96 ≡ pos 17
  pub aes256_sha1 : number Aes256CtsHmacSha1_96 ≡ pos 18
  pub aes128_sha256 : number Aes128CtsHmacSha256_128 ≡ pos 19
  pub aes256_sha384 : number Aes256CtsHmacSha384_192 ≡ pos 20
  pub aes128_sha1_checksum : checksum_type Aes128CtsHmacSha1_96 ≡ pos 15
  pub aes256_sha1_checksum : checksum_type Aes256CtsHmacSha1_96 ≡ pos 16
  pub aes128_sha256_checksum : checksum_type Aes128CtsHmacSha256_128 ≡ pos 19
  pub aes256_sha384_checksum : checksum_type Aes256CtsHmacSha384_192 ≡ pos 20

-- RFC 4120, section 7.5.1
pub record UsageNumbers : Type 0 where
  pub pa_enc_timestamp : usage_number PaEncTimestamp ≡ 1
  pub ticket : usage_number Ticket ≡ 2
  pub as_rep_enc_part : usage_number AsRepEncPart ≡ 3
  pub tgs_req_authenticator_checksum : usage_number TgsReqAuthenticatorChecksum ≡ 6
  pub tgs_req_authenticator : usage_number TgsReqAuthenticator ≡ 7
  pub tgs_rep_enc_part_session_key : usage_number TgsRepEncPartSessionKey ≡ 8
  pub tgs_rep_enc_part_subkey : usage_number TgsRepEncPartSubkey ≡ 9
  pub ap_req_authenticator_checksum : usage_number ApReqAuthenticatorChecksum ≡ 10
  pub ap_req_authenticator : usage_number ApReqAuthenticator ≡ 11
  pub ap_rep_enc_part : usage_number ApRepEncPart ≡ 12
  pub stored_key : usage_number StoredKey ≡ 0

pub record AreNumbered : Type 0 where
  pub etypes : EtypeNumbers
  pub usages : UsageNumbers
