-- The parts of an AP-REQ are shorter than the AP-REQ.
use Rattle.std.proofs.Common.{ℕ, ◌<◌, ◌+◌, ◌*◌, List, [], ◌++◌, length, Some, Result, Ok, Err, refl, ap, arith}
use Rattle.std.specs.Prelude.{IfOk}
use Rattle.std.proofs.lemmas.List.{length-append}
use Rattle.krb_der.specs.Int.{int_octets}
use Rattle.krb_der.specs.Spelling.{tlv, IsBytes}
use Rattle.krb_elements.specs.Codec.{sequence}
use Rattle.krb_elements.specs.InsideLaws.{IsInside, in_contents, in_field, past_field}
use Rattle.krb_elements.specs.OneSpellingLaws.{HasOneSpelling}
use Rattle.krb_elements.specs.Written.{field_text, maybe_text}
use Rattle.krb_elements.specs.WrittenLaws.{tlv_longer}
use Rattle.krb_fields.specs.EncryptedData.{EncryptedData, encrypted_data, encrypted_data_form}
use Rattle.krb_fields.specs.PrincipalName.{name}
use Rattle.krb_types.specs.Ticket.{Ticket, ticket, ticket_form}
use Rattle.krb_types.specs.TicketLaws.{ticket_size, ticket_inside}
use Rattle.krb_types.specs.ApReq.{ApReq, ap_req, ap_req_form, HasShorterParts}

-- ---- writing: a cipher is shorter than the value that contains it

cipher_shorter : (e : EncryptedData) → length e.cipher < length (encrypted_data.text e)
unfolding encrypted_data_form
cipher_shorter e =
    let cipher : List ℕ = field_text 162 4 e.cipher ++ [] in
    let kvno : List ℕ = maybe_text 161 2 int_octets e.kvno in
    omega (arith, length-append (field_text 160 2 (int_octets e.etype)) (kvno ++ cipher), length-append kvno cipher, length-append (field_text 162 4 e.cipher) [], tlv_longer 162 (tlv 4 e.cipher), tlv_longer 4 e.cipher)

sealed_shorter : (t : Ticket) → length (encrypted_data.text t.enc_part) < length (ticket.text t)
unfolding ticket_form
sealed_shorter t =
    let sealed : List ℕ = field_text 163 48 (encrypted_data.text t.enc_part) ++ [] in
    let sname : List ℕ = field_text 162 48 (name.text t.sname) in
    let realm : List ℕ = field_text 161 27 t.realm in
    let number : List ℕ = field_text 160 2 (int_octets t.tkt_vno) in
    let contents : List ℕ = number ++ (realm ++ (sname ++ sealed)) in
    omega (
      arith,
      length-append number (realm ++ (sname ++ sealed)),
      length-append realm (sname ++ sealed),
      length-append sname sealed,
      length-append (field_text 163 48 (encrypted_data.text t.enc_part)) [],
      tlv_longer 163 (tlv 48 (encrypted_data.text t.enc_part)),
      tlv_longer 48 (encrypted_data.text t.enc_part),
      tlv_longer 48 contents,
    )

-- ---- reading: the parts of an AP-REQ are inside it

abbrev sealed_size : EncryptedData → ℕ
sealed_size e = length (encrypted_data.text e) + 1

sealed_one : HasOneSpelling encrypted_data.Spells encrypted_data.tag encrypted_data.text
unfolding encrypted_data_form
sealed_one = encrypted_data.laws.one refl

sealed_inside : IsInside sealed_size encrypted_data.Spells (λ e. Some e)
sealed_inside = record { is = λ e bytes fits s. omega (arith, ap length (sealed_one.is e bytes fits s), tlv_longer 48 (encrypted_data.text e)) }

ticket_in : IsInside ticket_size ap_req.Spells (λ x. Some x.ticket)
unfolding ap_req_form
ticket_in =
    let form = ap_req_form ticket encrypted_data in
    in_contents ticket_size 110 (sequence form).Spells (λ x. Some x.ticket) (λ (x : ApReq). x)
    (in_contents ticket_size 48 form.fields.Spells (λ y. Some y.1.1.1.0) form.fields.of
    (past_field ticket_size 160 _ _ (λ y. Some y.1.1.0)
    (past_field ticket_size 161 _ _ (λ y. Some y.1.0) (past_field ticket_size 162 _ _ (λ y. Some y.0) (in_field ticket_size 163 _ _ (λ t. Some t) ticket_inside)))))

authenticator_in : IsInside sealed_size ap_req.Spells (λ x. Some x.authenticator)
unfolding ap_req_form
authenticator_in =
    let form = ap_req_form ticket encrypted_data in
    in_contents sealed_size 110 (sequence form).Spells (λ x. Some x.authenticator) (λ (x : ApReq). x)
    (in_contents sealed_size 48 form.fields.Spells (λ y. Some y.1.1.1.1.0) form.fields.of
    (past_field sealed_size 160 _ _ (λ y. Some y.1.1.1.0)
    (past_field sealed_size 161 _ _ (λ y. Some y.1.1.0)
    (past_field sealed_size 162 _ _ (λ y. Some y.1.0)
    (past_field sealed_size 163 _ _ (λ y. Some y.0) (in_field sealed_size 164 _ _ (λ e. Some e) sealed_inside))))))

parts_shorter : (x : ApReq) (bytes : List ℕ) → IsBytes bytes → ap_req.Spells x bytes → HasShorterParts bytes x
parts_shorter x bytes fits s =
    let in_ticket = ticket_in.is x bytes fits s in
    let in_authenticator = authenticator_in.is x bytes fits s in
    record {
      ticket_text = omega (arith, in_ticket);
      ticket_cipher = omega (arith, in_ticket, sealed_shorter x.ticket, cipher_shorter x.ticket.enc_part);
      authenticator_text = omega (arith, in_authenticator);
      authenticator_cipher = omega (arith, in_authenticator, cipher_shorter x.authenticator);
    }

-- ---- what was read

pub parts_if_read : {E : Type 0} (r : Result ApReq E) (bytes : List ℕ) → IsBytes bytes → IfOk r (λ x. ap_req.Spells x bytes) → IfOk r (λ x. HasShorterParts bytes x)
parts_if_read (Ok x) bytes fits h = parts_shorter x bytes fits h
parts_if_read (Err e) bytes fits h = tt

-- its encoding is shorter than three times the bytes that were read
pub short_if_decoded : {E : Type 0} (r : Result ApReq E) (bytes : List ℕ) → IsBytes bytes → IfOk r (λ x. ap_req.Spells x bytes) → IfOk r (λ x. length (ap_req.text x) < 3 * length bytes)
short_if_decoded (Ok x) bytes fits h = omega (arith, tlv_longer 110 (ap_req.text x), ap_req.laws.short.is x bytes fits h)
short_if_decoded (Err e) bytes fits h = tt
