-- What it means that a credential was read from a reply, in terms of the credential: the bytes encode a reply to this
-- request, and the key decrypts its part.
use Rattle.std.specs.Prelude.{◌≡◌, ℕ, ℤ, pos, false, List, Some, Ok}
use Rattle.cred_files.specs.declared.credential.Credential.{Credential}
use Rattle.enctypes.specs.declared.key.Key.{Key}
use Rattle.krb_elements.specs.Format.{whole}
use Rattle.krb_fields.specs.PrincipalName.{Name}
use Rattle.krb_types.specs.EncKdcRepPart.{EncKdcRepPart}
use Rattle.krb_types.specs.KdcRep.{KdcRep, kdc_rep}
use Rattle.client_core.specs.declared.asked.Asked.{Asked}
use Rattle.client_core.specs.declared.key_role.KeyRole.{KeyRole}
use Rattle.client_core.specs.Credentials.{credential_of}
use Rattle.client_core.specs.Replies.{ends_too_late, opened_as, starts_elsewhere}

-- both are one principal: the realms are equal, and the names' components
pub record AreSame (realm : List ℕ) (name : Name) (other_realm : List ℕ) (other_name : Name) : Type 0 where
  pub realms : realm ≡ other_realm
  pub names : name.components ≡ other_name.components

pub record IsTaken (type : ℕ) (role : KeyRole) (asked : Asked) (key : Key) (now : ℤ) (bytes : List ℕ)
    (credential : Credential) : Type 0 where
  pub reply : KdcRep type
  pub part : EncKdcRepPart
  -- the bytes encode the reply, and the key decrypts its part
  pub spelled : whole (kdc_rep type).at bytes ≡ Ok reply
  pub opens : opened_as role key reply.enc_part ≡ Some part
  -- it answers the request: the client, the nonce, the service, the times
  pub client : AreSame reply.crealm reply.cname asked.realm asked.client
  pub nonce : part.nonce ≡ pos asked.nonce
  pub service : AreSame part.srealm part.sname asked.realm asked.service
  pub ticket_service : AreSame reply.ticket.realm reply.ticket.sname asked.realm asked.service
  pub ends : ends_too_late asked part ≡ false
  pub starts : starts_elsewhere asked now part ≡ false
  -- the credential is the one in this reply
  pub is : credential ≡ credential_of type reply part
