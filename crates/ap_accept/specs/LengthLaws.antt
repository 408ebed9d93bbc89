-- An AP-REP and a KRB-ERROR are short enough to encode.
use Rattle.std.proofs.Common.{◌≡◌, ℕ, ℤ, ◌^◌, ◌<◌, ◌≤◌, List, length, None, refl, arith}
use Rattle.std.specs.Prelude.{Bool, true, false, ◌&&◌, IsTrue}
use Rattle.krb_elements.specs.Codec.{measured, octets, string}
use Rattle.krb_types.specs.ApRep.{ap_rep, ap_rep_form}
use Rattle.krb_fields.specs.EncryptedData.{encrypted_data_form}
use Rattle.krb_fields.specs.NameLengthLaws.{name_short}
use Rattle.krb_fields.specs.NameLimitsLaws.{component_facts}
use Rattle.krb_fields.specs.PrincipalName.{name}
use Rattle.krb_fields.specs.Typed.{typed_form}
use Rattle.krb_types.specs.Authenticator.{Authenticator}
use Rattle.krb_types.specs.EncApRepPart.{enc_ap_rep_part, enc_ap_rep_part_form}
use Rattle.krb_fields.specs.NameLimits.{is_component, is_within_limits}
use Rattle.krb_fields.specs.declared.moment.Moment.{Moment}
use Rattle.krb_types.specs.KrbError.{krb_error, krb_error_of, krb_error_form}
use Rattle.ap_req.specs.declared.refusal.ApRefusal.{ApRefusal}
use Rattle.ap_accept.specs.Label.{error_of, is_nameable}
use Rattle.ap_accept.specs.Reply.{reply_part}
use Rattle.ap_accept.specs.declared.label.TicketLabel.{TicketLabel}

pub part_short : (auth : Authenticator) → length (enc_ap_rep_part.text (reply_part auth)) ≤ 100
unfolding enc_ap_rep_part_form typed_form
part_short auth = omega (arith, enc_ap_rep_part.bounded (reply_part auth))

pub reply_short : (etype : ℤ) (cipher : List ℕ) → length cipher ≤ 146
    → length (ap_rep.text (record { enc_part = record { etype = etype; kvno = None; cipher = cipher } })) < 2 ^ 32
unfolding ap_rep_form encrypted_data_form
reply_short etype cipher few =
    omega (arith, ap_rep.bounded (record { enc_part = record { etype = etype; kvno = None; cipher = cipher } }), few)

-- both hold
nameable_facts : (a b : Bool) → IsTrue (a && b) → IsTrue a × IsTrue b
nameable_facts true true is = (refl, refl)
nameable_facts true false is = absurd (let k : false ≡ true = is in cc)
nameable_facts false b is = absurd (let k : false ≡ true = is in cc)

pub error_short : (label : TicketLabel) (at : Moment) (refusal : ApRefusal) → IsTrue (is_nameable label)
    → length (krb_error.text (error_of label at refusal)) < 2 ^ 32
unfolding krb_error_form
error_short label at refusal is =
    let both = nameable_facts (is_component label.service.realm) (is_within_limits label.service.name.components) is in
    omega (
      arith,
      (krb_error_of string (measured name) octets).bounded (error_of label at refusal),
      (component_facts label.service.realm both.0).1,
      name_short label.service.name both.1,
    )
