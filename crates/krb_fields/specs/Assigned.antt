-- The numbers that RFC 4120 and IANA assign, in digits. The constants of the code are these.
use Rattle.std.specs.Prelude.{◌≡◌, pos}
use Rattle.krb_fields.specs.declared.numbers.TheConstants as numbers

-- the version, and the numbers of tags and message types: RFC 4120, sections 5.10 and 7.5.7
pub record MessageNumbers : Type 0 where
  pub pvno : numbers.PVNO ≡ pos 5
  pub ticket : numbers.TICKET ≡ 1
  pub authenticator : numbers.AUTHENTICATOR ≡ 2
  pub enc_ticket_part : numbers.ENC_TICKET_PART ≡ 3
  pub as_req : numbers.AS_REQ ≡ 10
  pub as_rep : numbers.AS_REP ≡ 11
  pub tgs_req : numbers.TGS_REQ ≡ 12
  pub tgs_rep : numbers.TGS_REP ≡ 13
  pub ap_req : numbers.AP_REQ ≡ 14
  pub ap_rep : numbers.AP_REP ≡ 15
  pub enc_as_rep_part : numbers.ENC_AS_REP_PART ≡ 25
  pub enc_tgs_rep_part : numbers.ENC_TGS_REP_PART ≡ 26
  pub enc_ap_rep_part : numbers.ENC_AP_REP_PART ≡ 27
  pub krb_error : numbers.KRB_ERROR ≡ 30

-- types of padata, of names, of the transited path and of last requests: RFC 4120, sections 7.5.2, 6.2, 3.3.3.2, 5.4.2
pub record TypeNumbers : Type 0 where
  pub pa_tgs_req : numbers.PA_TGS_REQ ≡ pos 1
  pub pa_enc_timestamp : numbers.PA_ENC_TIMESTAMP ≡ pos 2
  pub pa_etype_info2 : numbers.PA_ETYPE_INFO2 ≡ pos 19
  pub nt_principal : numbers.NT_PRINCIPAL ≡ pos 1
  pub nt_srv_inst : numbers.NT_SRV_INST ≡ pos 2
  pub domain_x500_compress : numbers.DOMAIN_X500_COMPRESS ≡ pos 1
  pub lr_none : numbers.LR_NONE ≡ pos 0

-- encryption and checksum types: RFC 3962, section 7; RFC 8009, sections 5 and 6
pub record EncryptionNumbers : Type 0 where
  pub aes128_cts_hmac_sha1_96 : numbers.AES128_CTS_HMAC_SHA1_96 ≡ pos 17
  pub aes256_cts_hmac_sha1_96 : numbers.AES256_CTS_HMAC_SHA1_96 ≡ pos 18
  pub aes128_cts_hmac_sha256_128 : numbers.AES128_CTS_HMAC_SHA256_128 ≡ pos 19
  pub aes256_cts_hmac_sha384_192 : numbers.AES256_CTS_HMAC_SHA384_192 ≡ pos 20
  pub hmac_sha1_96_aes128 : numbers.HMAC_SHA1_96_AES128 ≡ pos 15
  pub hmac_sha1_96_aes256 : numbers.HMAC_SHA1_96_AES256 ≡ pos 16
  pub hmac_sha256_128_aes128 : numbers.HMAC_SHA256_128_AES128 ≡ pos 19
  pub hmac_sha384_192_aes256 : numbers.HMAC_SHA384_192_AES256 ≡ pos 20

-- key usages: RFC 4120, section 7.5.1
pub record UsageNumbers : Type 0 where
  pub usage_pa_enc_timestamp : numbers.USAGE_PA_ENC_TIMESTAMP ≡ 1
  pub usage_ticket : numbers.USAGE_TICKET ≡ 2
  pub usage_as_rep_enc_part : numbers.USAGE_AS_REP_ENC_PART ≡ 3
  pub usage_tgs_req_authenticator_checksum : numbers.USAGE_TGS_REQ_AUTHENTICATOR_CHECKSUM ≡ 6
  pub usage_tgs_req_authenticator : numbers.USAGE_TGS_REQ_AUTHENTICATOR ≡ 7
  pub usage_tgs_rep_enc_part_session_key : numbers.USAGE_TGS_REP_ENC_PART_SESSION_KEY ≡ 8
  pub usage_tgs_rep_enc_part_subkey : numbers.USAGE_TGS_REP_ENC_PART_SUBKEY ≡ 9
  pub usage_ap_req_authenticator_checksum : numbers.USAGE_AP_REQ_AUTHENTICATOR_CHECKSUM ≡ 10
  pub usage_ap_req_authenticator : numbers.USAGE_AP_REQ_AUTHENTICATOR ≡ 11
  pub usage_ap_rep_enc_part : numbers.USAGE_AP_REP_ENC_PART ≡ 12

-- error codes: RFC 4120, section 7.5.9
pub record CodeNumbers : Type 0 where
  pub kdc_err_name_exp : numbers.KDC_ERR_NAME_EXP ≡ pos 1
  pub kdc_err_service_exp : numbers.KDC_ERR_SERVICE_EXP ≡ pos 2
  pub kdc_err_bad_pvno : numbers.KDC_ERR_BAD_PVNO ≡ pos 3
  pub kdc_err_c_old_mast_kvno : numbers.KDC_ERR_C_OLD_MAST_KVNO ≡ pos 4
  pub kdc_err_s_old_mast_kvno : numbers.KDC_ERR_S_OLD_MAST_KVNO ≡ pos 5
  pub kdc_err_c_principal_unknown : numbers.KDC_ERR_C_PRINCIPAL_UNKNOWN ≡ pos 6
  pub kdc_err_s_principal_unknown : numbers.KDC_ERR_S_PRINCIPAL_UNKNOWN ≡ pos 7
  pub kdc_err_principal_not_unique : numbers.KDC_ERR_PRINCIPAL_NOT_UNIQUE ≡ pos 8
  pub kdc_err_null_key : numbers.KDC_ERR_NULL_KEY ≡ pos 9
  pub kdc_err_cannot_postdate : numbers.KDC_ERR_CANNOT_POSTDATE ≡ pos 10
  pub kdc_err_never_valid : numbers.KDC_ERR_NEVER_VALID ≡ pos 11
  pub kdc_err_policy : numbers.KDC_ERR_POLICY ≡ pos 12
  pub kdc_err_badoption : numbers.KDC_ERR_BADOPTION ≡ pos 13
  pub kdc_err_etype_nosupp : numbers.KDC_ERR_ETYPE_NOSUPP ≡ pos 14
  pub kdc_err_sumtype_nosupp : numbers.KDC_ERR_SUMTYPE_NOSUPP ≡ pos 15
  pub kdc_err_padata_type_nosupp : numbers.KDC_ERR_PADATA_TYPE_NOSUPP ≡ pos 16
  pub kdc_err_trtype_nosupp : numbers.KDC_ERR_TRTYPE_NOSUPP ≡ pos 17
  pub kdc_err_client_revoked : numbers.KDC_ERR_CLIENT_REVOKED ≡ pos 18
  pub kdc_err_service_revoked : numbers.KDC_ERR_SERVICE_REVOKED ≡ pos 19
  pub kdc_err_tgt_revoked : numbers.KDC_ERR_TGT_REVOKED ≡ pos 20
  pub kdc_err_client_notyet : numbers.KDC_ERR_CLIENT_NOTYET ≡ pos 21
  pub kdc_err_service_notyet : numbers.KDC_ERR_SERVICE_NOTYET ≡ pos 22
  pub kdc_err_key_expired : numbers.KDC_ERR_KEY_EXPIRED ≡ pos 23
  pub kdc_err_preauth_failed : numbers.KDC_ERR_PREAUTH_FAILED ≡ pos 24
  pub kdc_err_preauth_required : numbers.KDC_ERR_PREAUTH_REQUIRED ≡ pos 25
  pub kdc_err_server_nomatch : numbers.KDC_ERR_SERVER_NOMATCH ≡ pos 26
  pub kdc_err_must_use_user2user : numbers.KDC_ERR_MUST_USE_USER2USER ≡ pos 27
  pub kdc_err_path_not_accepted : numbers.KDC_ERR_PATH_NOT_ACCEPTED ≡ pos 28
  pub kdc_err_svc_unavailable : numbers.KDC_ERR_SVC_UNAVAILABLE ≡ pos 29
  pub krb_ap_err_bad_integrity : numbers.KRB_AP_ERR_BAD_INTEGRITY ≡ pos 31
  pub krb_ap_err_tkt_expired : numbers.KRB_AP_ERR_TKT_EXPIRED ≡ pos 32
  pub krb_ap_err_tkt_nyv : numbers.KRB_AP_ERR_TKT_NYV ≡ pos 33
  pub krb_ap_err_repeat : numbers.KRB_AP_ERR_REPEAT ≡ pos 34
  pub krb_ap_err_not_us : numbers.KRB_AP_ERR_NOT_US ≡ pos 35
  pub krb_ap_err_badmatch : numbers.KRB_AP_ERR_BADMATCH ≡ pos 36
  pub krb_ap_err_skew : numbers.KRB_AP_ERR_SKEW ≡ pos 37
  pub krb_ap_err_badaddr : numbers.KRB_AP_ERR_BADADDR ≡ pos 38
  pub krb_ap_err_badversion : numbers.KRB_AP_ERR_BADVERSION ≡ pos 39
  pub krb_ap_err_msg_type : numbers.KRB_AP_ERR_MSG_TYPE ≡ pos 40
  pub krb_ap_err_modified : numbers.KRB_AP_ERR_MODIFIED ≡ pos 41
  pub krb_ap_err_badorder : numbers.KRB_AP_ERR_BADORDER ≡ pos 42
  pub krb_ap_err_badkeyver : numbers.KRB_AP_ERR_BADKEYVER ≡ pos 44
  pub krb_ap_err_nokey : numbers.KRB_AP_ERR_NOKEY ≡ pos 45
  pub krb_ap_err_mut_fail : numbers.KRB_AP_ERR_MUT_FAIL ≡ pos 46
  pub krb_ap_err_baddirection : numbers.KRB_AP_ERR_BADDIRECTION ≡ pos 47
  pub krb_ap_err_method : numbers.KRB_AP_ERR_METHOD ≡ pos 48
  pub krb_ap_err_badseq : numbers.KRB_AP_ERR_BADSEQ ≡ pos 49
  pub krb_ap_err_inapp_cksum : numbers.KRB_AP_ERR_INAPP_CKSUM ≡ pos 50
  pub krb_ap_path_not_accepted : numbers.KRB_AP_PATH_NOT_ACCEPTED ≡ pos 51
  pub krb_err_response_too_big : numbers.KRB_ERR_RESPONSE_TOO_BIG ≡ pos 52
  pub krb_err_generic : numbers.KRB_ERR_GENERIC ≡ pos 60
  pub krb_err_field_toolong : numbers.KRB_ERR_FIELD_TOOLONG ≡ pos 61
  pub kdc_error_client_not_trusted : numbers.KDC_ERROR_CLIENT_NOT_TRUSTED ≡ pos 62
  pub kdc_error_kdc_not_trusted : numbers.KDC_ERROR_KDC_NOT_TRUSTED ≡ pos 63
  pub kdc_error_invalid_sig : numbers.KDC_ERROR_INVALID_SIG ≡ pos 64
  pub kdc_err_key_too_weak : numbers.KDC_ERR_KEY_TOO_WEAK ≡ pos 65
  pub kdc_err_certificate_mismatch : numbers.KDC_ERR_CERTIFICATE_MISMATCH ≡ pos 66
  pub krb_ap_err_no_tgt : numbers.KRB_AP_ERR_NO_TGT ≡ pos 67
  pub kdc_err_wrong_realm : numbers.KDC_ERR_WRONG_REALM ≡ pos 68
  pub krb_ap_err_user_to_user_required : numbers.KRB_AP_ERR_USER_TO_USER_REQUIRED ≡ pos 69
  pub kdc_err_cant_verify_certificate : numbers.KDC_ERR_CANT_VERIFY_CERTIFICATE ≡ pos 70
  pub kdc_err_invalid_certificate : numbers.KDC_ERR_INVALID_CERTIFICATE ≡ pos 71
  pub kdc_err_revoked_certificate : numbers.KDC_ERR_REVOKED_CERTIFICATE ≡ pos 72
  pub kdc_err_revocation_status_unknown : numbers.KDC_ERR_REVOCATION_STATUS_UNKNOWN ≡ pos 73
  pub kdc_err_revocation_status_unavailable : numbers.KDC_ERR_REVOCATION_STATUS_UNAVAILABLE ≡ pos 74
  pub kdc_err_client_name_mismatch : numbers.KDC_ERR_CLIENT_NAME_MISMATCH ≡ pos 75
  pub kdc_err_kdc_name_mismatch : numbers.KDC_ERR_KDC_NAME_MISMATCH ≡ pos 76

pub record AreAssigned : Type 0 where
  pub messages : MessageNumbers
  pub types : TypeNumbers
  pub cryptography : EncryptionNumbers
  pub usages : UsageNumbers
  pub codes : CodeNumbers
