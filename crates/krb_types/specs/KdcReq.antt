-- KDC-REQ (RFC 4120, section 5.4.1): AS-REQ and TGS-REQ, which differ only in their tag.
use Rattle.std.proofs.Common.{ℕ, ◌+◌, ℤ, ◌<◌, ◌*◌, List, length, Option, Some, None, Result, Ok, Err, refl, arith}
use Rattle.std.specs.Prelude.{IfOk}
use Rattle.krb_der.specs.declared.fault.DerFault.{DerFault}
use Rattle.krb_der.specs.Spelling.{IsBytes}
use Rattle.krb_elements.specs.Codec.{Codec, Record, Fields, SpellsFields, field, optional, sent_field, end, sequence}
use Rattle.krb_elements.specs.Codec.{in_tag, list_of, int32}
use Rattle.krb_elements.specs.CodecLaws.{either_ok}
use Rattle.krb_elements.specs.FieldReading.{either_inside}
use Rattle.krb_elements.specs.Laws.{IsElement}
use Rattle.krb_elements.specs.Sent.{WithOctets}
use Rattle.krb_elements.specs.Spells.{InTagOf, Field, Optional, OptionalOf, Sent, End}
use Rattle.krb_elements.specs.WrittenLaws.{tlv_longer}
use Rattle.krb_fields.specs.declared.numbers.TheConstants.{AS_REQ, TGS_REQ}
use Rattle.krb_fields.specs.PaData.{PaData, pa_data}
use Rattle.krb_types.specs.ReqBody.{ReqBody, req_body}
use Rattle.krb_types.specs.declared.kdc_req.Exchange.{Exchange}
use Rattle.krb_types.specs.declared.kdc_req.Exchange.TheVariants.{As, Tgs}
use Rattle.krb_types.specs.declared.kdc_req.KdcReq as trees

abbrev pub KdcReq : Type 0
KdcReq = trees.KdcReq (List PaData) ReqBody

-- the body, with its bytes as they were sent
abbrev pub Received : Type 0
Received = trees.KdcReq (List PaData) (WithOctets ReqBody)

-- all fields before the body
abbrev before_body : {P B : Type 0} → Codec P → Fields (trees.KdcReq P B) → Fields (trees.KdcReq P B)
before_body p body = field 1 (λ x. x.pvno) int32 (field 2 (λ x. x.msg_type) int32 (optional 3 (λ x. x.padata) p body))

unfoldable pub kdc_req_form : Record KdcReq
kdc_req_form = record {
  fields = before_body (list_of pa_data) (field 4 (λ x. x.body) req_body end);
  to = λ (pvno, (msg_type, (padata, (body, _)))).
      record { pvno = pvno; msg_type = msg_type; padata = padata; body = body };
  there = λ v. refl;
  back = λ x. refl;
  rising = refl;
}

unfoldable pub received_form : Record Received
received_form = record {
  fields = before_body (list_of pa_data) (sent_field 4 (λ x. x.body) req_body end);
  to = λ (pvno, (msg_type, (padata, (body, _)))).
      record { pvno = pvno; msg_type = msg_type; padata = padata; body = body };
  there = λ v. refl;
  back = λ x. refl;
  rising = refl;
}

-- the message type, which is also the number of its APPLICATION tag
abbrev pub request_type : Exchange → ℕ
request_type As = AS_REQ
request_type Tgs = TGS_REQ

abbrev pub message_tag : Exchange → ℕ
message_tag exchange = 96 + request_type exchange

abbrev pub message : Exchange → Codec KdcReq
message exchange = in_tag (Some (message_tag exchange)) (sequence kdc_req_form)

-- a message of either exchange: a TGS-REQ if it has that tag, otherwise an AS-REQ
abbrev pub SpellsKdcReq : Exchange × KdcReq → List ℕ → Type 0
SpellsKdcReq = InTagOf message_tag (sequence kdc_req_form).Spells

abbrev pub SpellsReceived : Exchange × Received → List ℕ → Type 0
SpellsReceived = InTagOf message_tag (sequence received_form).Spells

abbrev pub received_at : List ℕ → Result ((Exchange × Received) × List ℕ) DerFault
received_at = either_inside (message_tag As, As) (message_tag Tgs, Tgs) (sequence received_form).at

each : (P : Exchange → Type 0) → P As → P Tgs → (x : Exchange) → P x
each P a t As = a
each P a t Tgs = t

pub received_ok : IsElement SpellsReceived received_at
received_ok = either_ok message_tag As Tgs each refl _ _ (sequence received_form).laws.element

-- ---- a received request, without the bytes of its body

abbrev pub without_octets : Received → KdcReq
without_octets r = record { pvno = r.pvno; msg_type = r.msg_type; padata = r.padata; body = r.body.value }

later : {A B C : Type 0} (tag : ℕ) (S : A → List ℕ → Type 0) (G : B → List ℕ → Type 0) (H : C → List ℕ → Type 0)
    (f : B → C) → ((y : B) (bytes : List ℕ) → G y bytes → H (f y) bytes)
    → (x : A) (y : B) (bytes : List ℕ) → Field tag S G (x, y) bytes → Field tag S H (x, f y) bytes
later tag S G H f h x y bytes s = (s.0, s.1, s.2, h y s.1 s.3, s.4)

later_maybe : {A B C : Type 0} (tag : ℕ) (S : A → List ℕ → Type 0) (G : B → List ℕ → Type 0) (H : C → List ℕ → Type 0)
    (f : B → C) → ((y : B) (bytes : List ℕ) → G y bytes → H (f y) bytes)
    → (o : Option A) (y : B) (bytes : List ℕ) → OptionalOf tag S G o y bytes → OptionalOf tag S H o (f y) bytes
later_maybe tag S G H f h None y bytes s = h y bytes s
later_maybe tag S G H f h (Some x) y bytes s = later tag S G H f h x y bytes s

abbrev Body : Type 0
Body = WithOctets ReqBody × Unit {0}

abbrev alone : Body → ReqBody × Unit {0}
alone v = (v.0.value, tt)

body_alone : (v : Body) (bytes : List ℕ) → Field 164 (Sent req_body.Spells) End v bytes
    → Field 164 req_body.Spells End (alone v) bytes
body_alone v bytes s = (s.0, s.1, (s.2.0, s.2.1, s.2.2.0, s.2.3), s.3, s.4)

abbrev Padata : Type 0
Padata = Option (List PaData) × Body

from_padata : (v : Padata) (bytes : List ℕ) → Optional 163 (list_of pa_data).Spells
    (Field 164 (Sent req_body.Spells) End) v bytes
    → Optional 163 (list_of pa_data).Spells (Field 164 req_body.Spells End) (v.0, alone v.1) bytes
from_padata v bytes s =
    later_maybe 163 (list_of pa_data).Spells (Field 164 (Sent req_body.Spells) End)
    (Field 164 req_body.Spells End) alone body_alone v.0 v.1 bytes s

from_type : (v : ℤ × Padata) (bytes : List ℕ)
    → Field 162 int32.Spells (Optional 163 (list_of pa_data).Spells (Field 164 (Sent req_body.Spells) End)) v bytes
    → Field 162 int32.Spells (Optional 163 (list_of pa_data).Spells (Field 164 req_body.Spells End))
    (v.0, (v.1.0, alone v.1.1)) bytes
from_type v bytes s =
    later 162 int32.Spells (Optional 163 (list_of pa_data).Spells (Field 164 (Sent req_body.Spells) End))
    (Optional 163 (list_of pa_data).Spells (Field 164 req_body.Spells End))
    (λ w. (w.0, alone w.1)) from_padata v.0 v.1 bytes s

fields_alone : (r : Received) (bytes : List ℕ) → SpellsFields received_form r bytes
    → SpellsFields kdc_req_form (without_octets r) bytes
unfolding received_form kdc_req_form
fields_alone r bytes s = (s.0, s.1, s.2, from_type (r.msg_type, (r.padata, (r.body, tt))) s.1 s.3, s.4)

-- the same bytes encode it
pub is_request : (exchange : Exchange) (r : Received) (bytes : List ℕ) → SpellsReceived (exchange, r) bytes
    → SpellsKdcReq (exchange, without_octets r) bytes
is_request exchange r bytes s = (s.0, s.1, (s.2.0, s.2.1, fields_alone r s.2.0 s.2.2, s.2.3), s.3)

pub request_if : {E : Type 0} (r : Result (Exchange × Received) E) (bytes : List ℕ)
    → IfOk r (λ x. SpellsReceived x bytes) → IfOk r (λ x. SpellsKdcReq (x.0, without_octets x.1) bytes)
request_if (Ok x) bytes s = is_request x.0 x.1 bytes s
request_if (Err e) bytes s = tt

-- its encoding is shorter than three times the bytes that were read
pub short_if_decoded : {E : Type 0} (r : Result (Exchange × KdcReq) E) (bytes : List ℕ) → IsBytes bytes
    → IfOk r (λ x. SpellsKdcReq x bytes) → IfOk r (λ x. length ((message x.0).text x.1) < 3 * length bytes)
short_if_decoded (Ok x) bytes fits h =
    omega (arith, tlv_longer (message_tag x.0) ((message x.0).text x.1), (message x.0).laws.short.is x.1 bytes fits h)
short_if_decoded (Err e) bytes fits h = tt
