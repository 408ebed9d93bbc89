-- An entry of LastReq (RFC 4120, section 5.4.2).
use Rattle.std.proofs.Common.{refl}
use Rattle.krb_elements.specs.Codec.{Codec, Record, field, end, sequence, int32, time}
use Rattle.krb_types.specs.declared.last_req.LastReq as trees

abbrev pub LastReq : Type 0
LastReq = trees.LastReq

unfoldable pub last_req_form : Record trees.LastReq
last_req_form = record {
  fields =
      field 0 (λ x. x.lr_type) int32
      (field 1 (λ x. x.lr_value) time
      end);
  to = λ (lr_type, (lr_value, _)). record { lr_type = lr_type; lr_value = lr_value };
  there = λ v. refl;
  back = λ x. refl;
  rising = refl;
}

abbrev pub last_req : Codec LastReq
last_req = sequence last_req_form
