-- A copy of a reply is the same reply.
use Rattle.std.proofs.Common.{◌≡◌, ℕ, List, map, refl}
use Rattle.std.specs.Prelude.{option_map}
use Rattle.krb_elements.specs.CopyLaws.{map_all}
use Rattle.krb_fields.specs.NameCopyLaws.{same_name}
use Rattle.krb_types.specs.CopyLaws.{same_ticket, data_copied}
use Rattle.krb_types.specs.KdcRep.{KdcRep}

abbrev pub same_reply : {type : ℕ} → KdcRep type → KdcRep type
same_reply x = record {
  padata = option_map (map (λ y. y)) x.padata;
  crealm = x.crealm;
  cname = same_name x.cname;
  ticket = same_ticket x.ticket;
  enc_part = x.enc_part;
}

pub reply_copied : {type : ℕ} (x : KdcRep type) → same_reply x ≡ x
reply_copied x =
    rw (
      data_copied x.padata,
      map_all (λ (y : List ℕ). y) (λ y. refl) x.cname.components,
      map_all (λ (y : List ℕ). y) (λ y. refl) x.ticket.sname.components,
    ) refl
