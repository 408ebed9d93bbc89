-- A copy is the same value: the ticket's name, in an AP-REQ, consists of copies.
use Rattle.std.proofs.Common.{◌≡◌, ℕ, List, refl}
use Rattle.krb_elements.specs.CopyLaws.{map_all}
use Rattle.krb_types.specs.CopyLaws.{same_ticket}
use Rattle.krb_types.specs.ApReq.{ApReq}

abbrev pub same_ap_req : ApReq → ApReq
same_ap_req x = record { pvno = x.pvno; msg_type = x.msg_type; ap_options = x.ap_options; ticket = same_ticket x.ticket; authenticator = x.authenticator }

pub ap_req_copied : (x : ApReq) → same_ap_req x ≡ x
ap_req_copied x = rw (map_all (λ (y : List ℕ). y) (λ y. refl) x.ticket.sname.components) refl
