-- Messages with short realms and names are short enough to encode.
use Rattle.std.proofs.Common.{◌≡◌, ℕ, ℤ, ◌^◌, ◌<◌, ◌≤◌, List, length, Option, Some, None, refl, ap, arith}
use Rattle.std.specs.Prelude.{IfSome}
use Rattle.krb_elements.specs.Codec.{measured, list_of, octets, string}
use Rattle.krb_elements.specs.TextLengthLaws.{most_maybe}
use Rattle.krb_fields.specs.declared.code.Code.{Code}
use Rattle.krb_fields.specs.declared.moment.Moment.{Moment}
use Rattle.krb_fields.specs.EncryptedData.{encrypted_data, encrypted_data_form}
use Rattle.krb_fields.specs.NameLengthLaws.{name_short}
use Rattle.krb_fields.specs.NameLimits.{IsWithinLimits}
use Rattle.krb_fields.specs.PaData.{PaData, pa_data}
use Rattle.krb_fields.specs.PrincipalName.{Name, name, name_form}
use Rattle.krb_fields.specs.Typed.{Typed, typed, typed_form}
use Rattle.krb_types.specs.EncKdcRepPart.{enc_kdc_rep_part, enc_kdc_rep_part_of, enc_kdc_rep_part_form}
use Rattle.krb_types.specs.EncTicketPart.{enc_ticket_part, enc_ticket_part_of, enc_ticket_part_form}
use Rattle.krb_types.specs.LastReq.{last_req, last_req_form}
use Rattle.krb_types.specs.KdcRep.{KdcRep, kdc_rep, kdc_rep_of, kdc_rep_form}
use Rattle.krb_types.specs.Ticket.{ticket_of, ticket_form}
use Rattle.krb_types.specs.KrbError.{krb_error, krb_error_of, krb_error_form}
use Rattle.krb_fields.specs.Granting.{tgs_name}
use Rattle.kdc_replies.specs.ErrorReply.{error_reply}
use Rattle.kdc_replies.specs.declared.grant.Grant.{Grant}
use Rattle.kdc_replies.specs.Grant.{IsShort, ticket_part, reply_part}

-- ---- errors

tgs_short : (realm : List ℕ) → length realm ≤ 255 → length (name.text (tgs_name realm)) < 2147483648
unfolding name_form
tgs_short realm short = omega (arith, name.bounded (tgs_name realm))

error_bounded : (realm : List ℕ) (at : Moment) (code : Code) (sname : Name) (e_data : Option (List ℕ))
    → length realm ≤ 255 → length (name.text sname) < 2147483648 → IfSome e_data (λ d. length d ≤ 65535)
    → length (krb_error.text (error_reply realm at code (Some sname) e_data)) < 2 ^ 32
unfolding krb_error_form
error_bounded realm at code sname (Some d) short shorter few =
    omega (
      arith,
      (krb_error_of string (measured name) octets).bounded
          (error_reply realm at code (Some sname) (Some d)),
    )
error_bounded realm at code sname None short shorter few =
    omega (arith, (krb_error_of string (measured name) octets).bounded (error_reply realm at code (Some sname) None))

pub error_short : (realm : List ℕ) (at : Moment) (code : Code) (sname : Option Name) (e_data : Option (List ℕ))
    → length realm ≤ 255 → IfSome sname (λ n. length (name.text n) < 2147483648) → IfSome e_data (λ d. length d ≤ 65535)
    → length (krb_error.text (error_reply realm at code sname e_data)) < 2 ^ 32
error_short realm at code (Some n) e_data short shorter few = error_bounded realm at code n e_data short shorter few
error_short realm at code None e_data short shorter few =
    error_bounded realm at code (tgs_name realm) e_data short (tgs_short realm short) few

-- ---- tickets and replies

data_short : (entries : Option (List Typed)) → IfSome entries (λ list. length ((list_of typed).text list) < 2147483648)
    → most_maybe {A = List Typed} (λ list. length ((list_of typed).text list)) entries ≤ 2147483660
data_short None short = omega arith
data_short (Some list) short = omega (arith, short)

ticket_text : (grant : Grant) (renew_till : Option ℤ) → grant.times.renew_till ≡ renew_till → length grant.realm ≤ 255
    → IsWithinLimits grant.client.components → length grant.session_key.bytes ≤ 32
    → IfSome grant.authorization_data (λ list. length ((list_of typed).text list) < 2147483648)
    → length (enc_ticket_part.text (ticket_part grant)) ≤ 2147490000
unfolding enc_ticket_part_form typed_form
ticket_text grant None e realm client key few =
    omega (
      arith,
      (enc_ticket_part_of typed string (measured name) (measured (list_of typed))).bounded (ticket_part grant),
      name_short grant.client client,
      ap (most_maybe {A = ℤ} (λ z. 15)) e,
      data_short grant.authorization_data few,
    )
ticket_text grant (Some till) e realm client key few =
    omega (
      arith,
      (enc_ticket_part_of typed string (measured name) (measured (list_of typed))).bounded (ticket_part grant),
      name_short grant.client client,
      ap (most_maybe {A = ℤ} (λ z. 15)) e,
      data_short grant.authorization_data few,
    )

-- the ticket's encrypted part
pub ticket_part_short : (grant : Grant) → IsShort grant → length grant.session_key.bytes ≤ 32
    → length (enc_ticket_part.text (ticket_part grant)) ≤ 2147490000
ticket_part_short grant short key =
    ticket_text grant grant.times.renew_till refl short.realm short.client key short.authorization

reply_text : (grant : Grant) (nonce now : ℤ) (renew_till : Option ℤ) → grant.times.renew_till ≡ renew_till
    → length grant.realm ≤ 255 → IsWithinLimits grant.service.components → length grant.session_key.bytes ≤ 32
    → length (enc_kdc_rep_part.text (reply_part grant nonce now)) ≤ 6000
unfolding enc_kdc_rep_part_form typed_form last_req_form
reply_text grant nonce now None e realm service key =
    omega (
      arith,
      (enc_kdc_rep_part_of typed (list_of last_req) string (measured name) (list_of typed)).bounded
          (reply_part grant nonce now),
      name_short grant.service service,
      ap (most_maybe {A = ℤ} (λ z. 15)) e,
    )
reply_text grant nonce now (Some till) e realm service key =
    omega (
      arith,
      (enc_kdc_rep_part_of typed (list_of last_req) string (measured name) (list_of typed)).bounded
          (reply_part grant nonce now),
      name_short grant.service service,
      ap (most_maybe {A = ℤ} (λ z. 15)) e,
    )

-- the reply's encrypted part
pub reply_text_short : (grant : Grant) (nonce now : ℤ) → IsShort grant → length grant.session_key.bytes ≤ 32
    → length (enc_kdc_rep_part.text (reply_part grant nonce now)) ≤ 6000
reply_text_short grant nonce now short key =
    reply_text grant nonce now grant.times.renew_till refl short.realm short.service key

kvno_short : (kvno : Option ℤ) → most_maybe {A = ℤ} (λ z. 8) kvno ≤ 20
kvno_short None = omega arith
kvno_short (Some n) = omega arith

padata_short : (padata : Option (List PaData)) → IfSome padata (λ list. length ((list_of pa_data).text list) ≤ 70000)
    → most_maybe {A = List PaData} (λ list. length ((list_of pa_data).text list)) padata ≤ 70012
padata_short None short = omega arith
padata_short (Some list) short = omega (arith, short)

-- a reply with short names and short ciphers
pub reply_short : (type : ℕ) (reply : KdcRep type) → length reply.crealm ≤ 255 → IsWithinLimits reply.cname.components
    → length reply.ticket.realm ≤ 255 → IsWithinLimits reply.ticket.sname.components
    → length reply.ticket.enc_part.cipher ≤ 2147490100 → length reply.enc_part.cipher ≤ 6200
    → IfSome reply.padata (λ list. length ((list_of pa_data).text list) ≤ 70000)
    → length ((kdc_rep type).text reply) < 2 ^ 32
unfolding kdc_rep_form ticket_form encrypted_data_form
reply_short type reply crealm cname realm sname sealed part padata =
    omega (
      arith,
      (kdc_rep_of type (measured (list_of pa_data)) string (measured name)
          (ticket_of string (measured name) encrypted_data) encrypted_data).bounded reply,
      name_short reply.cname cname,
      name_short reply.ticket.sname sname,
      kvno_short reply.enc_part.kvno,
      kvno_short reply.ticket.enc_part.kvno,
      padata_short reply.padata padata,
    )
