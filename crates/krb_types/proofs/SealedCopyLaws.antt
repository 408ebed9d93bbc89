-- A copy is the same value.
use Rattle.std.proofs.Common.{◌≡◌, ℕ, List, map, refl}
use Rattle.std.specs.Prelude.{option_map}
use Rattle.krb_elements.specs.CopyLaws.{map_all, option_all}
use Rattle.krb_fields.specs.NameCopyLaws.{same_name}
use Rattle.krb_fields.specs.Typed.{Typed}
use Rattle.krb_types.specs.LastReq.{LastReq}
use Rattle.krb_types.specs.EncTicketPart.{EncTicketPart}
use Rattle.krb_types.specs.EncKdcRepPart.{EncKdcRepPart}
use Rattle.krb_types.specs.Authenticator.{Authenticator}
use Rattle.krb_types.specs.EncApRepPart.{EncApRepPart}

abbrev pub same_enc_ticket_part : EncTicketPart → EncTicketPart
same_enc_ticket_part x = record { flags = x.flags; key = x.key; crealm = x.crealm; cname = same_name x.cname; transited = x.transited; authtime = x.authtime; starttime = x.starttime; endtime = x.endtime; renew_till = x.renew_till; caddr = option_map (map (λ (y : Typed). y)) x.caddr; authorization_data = option_map (map (λ (y : Typed). y)) x.authorization_data }

pub enc_ticket_part_copied : (x : EncTicketPart) → same_enc_ticket_part x ≡ x
enc_ticket_part_copied x =
    rw (
      map_all (λ (y : List ℕ). y) (λ y. refl) x.cname.components,
      option_all (map (λ (y : Typed). y)) (map_all (λ (y : Typed). y) (λ y. refl)) x.caddr,
      option_all (map (λ (y : Typed). y)) (map_all (λ (y : Typed). y) (λ y. refl)) x.authorization_data,
    ) refl

abbrev pub same_enc_kdc_rep_part : EncKdcRepPart → EncKdcRepPart
same_enc_kdc_rep_part x = record { key = x.key; last_req = map (λ y. y) x.last_req; nonce = x.nonce; key_expiration = x.key_expiration; flags = x.flags; authtime = x.authtime; starttime = x.starttime; endtime = x.endtime; renew_till = x.renew_till; srealm = x.srealm; sname = same_name x.sname; caddr = option_map (map (λ (y : Typed). y)) x.caddr }

pub enc_kdc_rep_part_copied : (x : EncKdcRepPart) → same_enc_kdc_rep_part x ≡ x
enc_kdc_rep_part_copied x =
    rw (
      map_all (λ (y : LastReq). y) (λ y. refl) x.last_req,
      map_all (λ (y : List ℕ). y) (λ y. refl) x.sname.components,
      option_all (map (λ (y : Typed). y)) (map_all (λ (y : Typed). y) (λ y. refl)) x.caddr,
    ) refl

abbrev pub same_authenticator : Authenticator → Authenticator
same_authenticator x = record { crealm = x.crealm; cname = same_name x.cname; cksum = option_map (λ (y : Typed). y) x.cksum; cusec = x.cusec; ctime = x.ctime; subkey = option_map (λ (y : Typed). y) x.subkey; seq_number = x.seq_number; authorization_data = option_map (map (λ (y : Typed). y)) x.authorization_data }

pub authenticator_copied : (x : Authenticator) → same_authenticator x ≡ x
authenticator_copied x =
    rw (
      map_all (λ (y : List ℕ). y) (λ y. refl) x.cname.components,
      option_all (λ (y : Typed). y) (λ y. refl) x.cksum,
      option_all (λ (y : Typed). y) (λ y. refl) x.subkey,
      option_all (map (λ (y : Typed). y)) (map_all (λ (y : Typed). y) (λ y. refl)) x.authorization_data,
    ) refl

abbrev pub same_enc_ap_rep_part : EncApRepPart → EncApRepPart
same_enc_ap_rep_part x = record { ctime = x.ctime; cusec = x.cusec; subkey = option_map (λ (y : Typed). y) x.subkey; seq_number = x.seq_number }

pub enc_ap_rep_part_copied : (x : EncApRepPart) → same_enc_ap_rep_part x ≡ x
enc_ap_rep_part_copied x =
    rw (option_all (λ (y : Typed). y) (λ y. refl) x.subkey) refl
