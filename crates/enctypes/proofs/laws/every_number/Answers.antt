use Rattle.std.proofs.Common.{refl}
use Rattle.enctypes.proofs.laws.every_number.Goals as goal

pub returns : goal.returns
returns c = record {
  etypes = record {
    aes128_sha1 = refl;
    aes256_sha1 = refl;
    aes128_sha256 = refl;
    aes256_sha384 = refl;
    aes128_sha1_checksum = refl;
    aes256_sha1_checksum = refl;
    aes128_sha256_checksum = refl;
    aes256_sha384_checksum = refl;
  };
  usages = record {
    pa_enc_timestamp = refl;
    ticket = refl;
    as_rep_enc_part = refl;
    tgs_req_authenticator_checksum = refl;
    tgs_req_authenticator = refl;
    tgs_rep_enc_part_session_key = refl;
    tgs_rep_enc_part_subkey = refl;
    ap_req_authenticator_checksum = refl;
    ap_req_authenticator = refl;
    ap_rep_enc_part = refl;
    stored_key = refl;
  };
}
