-- A name inside a request is shorter than the request.
use Rattle.std.proofs.Common.{ℕ, ◌<◌, List, length, Option, Result, Ok, Err, ap, arith}
use Rattle.std.specs.Prelude.{IfSome, IfOk}
use Rattle.krb_der.specs.Spelling.{IsBytes}
use Rattle.krb_elements.specs.WrittenLaws.{tlv_longer}
use Rattle.krb_fields.specs.PrincipalName.{Name, name, name_one}
use Rattle.krb_types.specs.declared.kdc_req.Exchange.{Exchange}
use Rattle.krb_types.specs.KdcReq.{KdcReq, Received, SpellsKdcReq, SpellsReceived, without_octets, is_request}
use Rattle.krb_types.specs.NameInRequestLaws.{HoldsOfNames, in_request}

-- the name's text is shorter than these bytes
abbrev pub IsShorter : List ℕ → Option Name → Type 0
IsShorter bytes o = IfSome o (λ n. length (name.text n) < length bytes)

names_short : HoldsOfNames (λ bytes n. length (name.text n) < length bytes)
names_short = record {
  spelled = λ n bytes fits s. omega (arith, ap length (name_one.is n bytes fits s), tlv_longer 48 (name.text n));
  longer = λ n short long le h. omega (arith, h);
}

-- the text of the service's name is shorter than the request
pub request_short : (exchange : Exchange) (x : KdcReq) (bytes : List ℕ) → IsBytes bytes
    → SpellsKdcReq (exchange, x) bytes → IsShorter bytes x.body.sname
request_short exchange x bytes fits s = in_request _ names_short exchange x bytes fits s

pub short_if_read : {E : Type 0} (r : Result (Exchange × Received) E) (bytes : List ℕ) → IsBytes bytes
    → IfOk r (λ x. SpellsReceived x bytes) → IfOk r (λ x. IsShorter bytes x.1.body.value.sname)
short_if_read (Ok x) bytes fits h = request_short x.0 (without_octets x.1) bytes fits (is_request x.0 x.1 bytes h)
short_if_read (Err e) bytes fits h = tt
