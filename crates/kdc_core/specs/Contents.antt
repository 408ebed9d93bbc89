-- The contents of a request: what its bytes encode, with its ticket and authenticator as far as they can be decrypted.
-- The answer, its encoding, the keys that decrypt it and the ticket that is issued are each read from the contents,
-- with one line for each case.
use Rattle.std.specs.Prelude.{◌<◌, IfSome, length, Option, Some, None, Result, Ok, Err}
use Rattle.krb_elements.specs.Codec.{list_of}
use Rattle.krb_fields.specs.PrincipalName.{name}
use Rattle.krb_fields.specs.Typed.{typed}
use Rattle.krb_types.specs.KdcReq.{Received}
use Rattle.krb_types.specs.declared.kdc_req.Exchange.{Exchange}
use Rattle.krb_types.specs.declared.kdc_req.Exchange.TheVariants.{As, Tgs}
use Rattle.tgs_opening.specs.Opening.{presented}
use Rattle.tgs_opening.specs.declared.presented.Presented.{Presented}
use Rattle.tgs_opening.specs.declared.rejection.OpeningRefusal.{OpeningRefusal}
use Rattle.kdc_core.specs.Request.{Request}
use Rattle.kdc_core.specs.View.{Named, View, components_of, names_presented, opening_view}
use Rattle.kdc_core.specs.Held.{Contents}
use Rattle.kdc_core.specs.Held.Contents.{NoRequest, AsReq, RefusedTgsReq, TgsReq}

abbrev pub tgs_contents : Received → Result Presented OpeningRefusal → Contents
tgs_contents message (Ok p) = TgsReq message p
tgs_contents message (Err rejected) = RefusedTgsReq message rejected

abbrev pub message_contents : View → Exchange → Received → Contents
message_contents v As message = AsReq message
message_contents v Tgs message = tgs_contents message (presented (opening_view v) message)

abbrev pub contents : View → Option Request → Contents
contents v (Some request) = message_contents v request.exchange request.message
contents v None = NoRequest

-- what a TGS-REQ presents, if its ticket and authenticator can be decrypted
abbrev pub presented_in : Contents → Option Presented
presented_in NoRequest = None
presented_in (AsReq message) = None
presented_in (RefusedTgsReq message rejected) = None
presented_in (TgsReq message p) = Some p

-- The names that the answer depends on. A refused TGS-REQ may name a client and a service (`named` says which), but its
-- answer depends on neither: it is the same whatever the request names.
abbrev pub names_answered : Contents → Named
names_answered NoRequest = record { client = None; service = None }
names_answered (AsReq message) = record {
  client = components_of message.body.value.cname;
  service = components_of message.body.value.sname;
}
names_answered (RefusedTgsReq message rejected) = record { client = None; service = None }
names_answered (TgsReq message p) = names_presented message p

-- ---- the texts in them are short, as in every request

abbrev pub IsShortName : Received → Type 0
IsShortName message = IfSome message.body.value.sname (λ n. length (name.text n) < 2147483648)

abbrev pub IsShortData : Presented → Type 0
IsShortData p = IfSome p.ticket.authorization_data (λ list. length ((list_of typed).text list) < 2147483648)
