-- What a client sends to a KDC: AS-REQ and TGS-REQ (RFC 4120, sections 3.1.1, 3.3.1 and 5.4.1).
use Rattle.std.specs.Prelude.{ℕ, pos, List, [], ◌∷◌, map, Option, Some, None}
use Rattle.cred_files.specs.declared.principal.Principal.{Principal}
use Rattle.enctypes.specs.declared.key.Key.{Key}
use Rattle.enctypes.specs.declared.key_usage.KeyUsage.TheVariants.{PaEncTimestamp, TgsReqAuthenticatorChecksum}
use Rattle.enctypes.specs.declared.key_usage.KeyUsage.TheVariants.{TgsReqAuthenticator}
use Rattle.enctypes.specs.Etype.{number, checksum_type}
use Rattle.enctypes.specs.KeyUsage.{usage_number}
use Rattle.enctypes.specs.Sealing.{mac}
use Rattle.krb_types.specs.ApReq.{ApReq, ap_req}
use Rattle.krb_elements.specs.Codec.{written}
use Rattle.krb_fields.specs.declared.numbers.TheConstants.{PVNO, PA_TGS_REQ, PA_ENC_TIMESTAMP}
use Rattle.krb_fields.specs.EncryptedData.{EncryptedData, encrypted_data}
use Rattle.krb_fields.specs.PaData.{PaData}
use Rattle.krb_fields.specs.PrincipalName.{Name}
use Rattle.krb_fields.specs.Typed.{Typed}
use Rattle.krb_fields.specs.declared.moment.Moment.{Moment}
use Rattle.krb_types.specs.Authenticator.{Authenticator}
use Rattle.krb_types.specs.PaEncTsEnc.{PaEncTsEnc, pa_enc_ts_enc}
use Rattle.krb_types.specs.KdcReq.{KdcReq, request_type}
use Rattle.krb_types.specs.ReqBody.{ReqBody, req_body}
use Rattle.krb_types.specs.declared.kdc_req.Exchange.{Exchange}
use Rattle.krb_types.specs.declared.kdc_req.Exchange.TheVariants.{As, Tgs}
use Rattle.encrypted_data.specs.Encrypted.{encrypted}
use Rattle.client_core.specs.declared.asked.Asked.{Asked}
use Rattle.client_core.specs.Presenting.{authenticator_of, presents}
use Rattle.client_core.specs.declared.sessions.Session.{Session}

-- ---- both requests

-- no addresses, no authorization data and no additional tickets
abbrev pub body_of : Option Name → Asked → ReqBody
body_of cname asked = record {
  kdc_options = asked.options;
  cname = cname;
  realm = asked.realm;
  sname = Some asked.service;
  from = asked.from;
  till = asked.till;
  rtime = asked.rtime;
  nonce = pos asked.nonce;
  etype = map number asked.etypes;
  addresses = None;
  enc_authorization_data = None;
  additional_tickets = None;
}

abbrev pub request_of : Exchange → Option (List PaData) → ReqBody → KdcReq
request_of exchange padata body =
    record { pvno = PVNO; msg_type = pos (request_type exchange); padata = padata; body = body }

-- ---- AS-REQ: it names the client

abbrev pub asks_as : Option (List PaData) → Asked → KdcReq
asks_as padata asked = request_of As padata (body_of (Some asked.client) asked)

-- PA-ENC-TIMESTAMP (section 5.2.7.2): the moment, under the client's key
abbrev pub timestamp_part : Moment → PaEncTsEnc
timestamp_part at = record { patimestamp = at.sec; pausec = Some at.usec }

abbrev pub sealed_timestamp : Key → Moment → List ℕ → EncryptedData
sealed_timestamp key at confounder =
    encrypted pa_enc_ts_enc key (usage_number PaEncTimestamp) None confounder (timestamp_part at)

abbrev pub timestamp_data : Key → Moment → List ℕ → PaData
timestamp_data key at confounder =
    record {
      padata_type = PA_ENC_TIMESTAMP;
      padata_value = written encrypted_data (sealed_timestamp key at confounder);
    }

abbrev pub asks_with_timestamp : Asked → Key → Moment → List ℕ → KdcReq
asks_with_timestamp asked key at confounder = asks_as (Some (timestamp_data key at confounder ∷ [])) asked

-- ---- TGS-REQ: it names no client, but presents a client's ticket

-- the checksum of the body's bytes, by the session key
abbrev pub body_checksum : Key → ReqBody → Typed
body_checksum key body = record {
  number = checksum_type key.etype;
  octets = mac key.etype key.bytes (usage_number TgsReqAuthenticatorChecksum) (written req_body body);
}

abbrev pub tgs_authenticator : Principal → Session → Moment → Option Key → ReqBody → Authenticator
tgs_authenticator client session at subkey body =
    authenticator_of client at (Some (body_checksum session.key body)) subkey None

-- an AP-REQ without options
abbrev pub tgs_presents : Principal → Session → Moment → Option Key → List ℕ → ReqBody → ApReq
tgs_presents client session at subkey confounder body =
    presents session 0 (usage_number TgsReqAuthenticator) confounder (tgs_authenticator client session at subkey body)

-- PA-TGS-REQ (section 5.2.7.1)
abbrev pub tgs_data : Principal → Session → Moment → Option Key → List ℕ → ReqBody → PaData
tgs_data client session at subkey confounder body = record {
  padata_type = PA_TGS_REQ;
  padata_value = written ap_req (tgs_presents client session at subkey confounder body);
}

-- `client` is the credential's, and `session` is its session
abbrev pub asks_tgs : Asked → Principal → Session → Moment → Option Key → List ℕ → KdcReq
asks_tgs asked client session at subkey confounder =
    request_of Tgs (Some (tgs_data client session at subkey confounder (body_of None asked) ∷ [])) (body_of None asked)
