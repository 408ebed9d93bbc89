-- The parts that C may ask for.
use Rattle.std.specs.Prelude.{ℕ, ◌==◌, if◌then◌else◌, List, Option, Some, None, option_and_then, option_map}
use Rattle.krb_fields.specs.NameText.{text_of}
use Rattle.ap_accept_c.specs.Last.{error_in}
use Rattle.ap_accept_c.specs.declared.last.Last.{Last}
use Rattle.ap_accept_c.specs.declared.part.Part.{Part}
use Rattle.ap_accept_c.specs.declared.part.Part.TheVariants.{ClientRealm, ClientName, SessionKey, Subkey, Checksum}
use Rattle.ap_accept_c.specs.declared.part.Part.TheVariants.{ApRep, ServiceRealm, ServiceName, Error}

abbrev pub part_numbered : ℕ → Option Part
part_numbered n =
    if n == 1 then Some ClientRealm
    else if n == 2 then Some ClientName
    else if n == 3 then Some SessionKey
    else if n == 4 then Some Subkey
    else if n == 5 then Some Checksum
    else if n == 6 then Some ApRep
    else if n == 7 then Some ServiceRealm
    else if n == 8 then Some ServiceName
    else if n == 9 then Some Error
    else None

abbrev pub octets_of : Part → Last → Option (List ℕ)
octets_of ClientRealm last = option_map (λ a. a.client.realm) last.accepted
octets_of ClientName last = option_map (λ a. text_of a.client.name.components) last.accepted
octets_of SessionKey last = option_map (λ a. a.session_key.bytes) last.accepted
octets_of Subkey last = option_and_then (λ a. option_map (λ k. k.bytes) a.subkey) last.accepted
octets_of Checksum last = option_and_then (λ a. option_map (λ c. c.octets) a.cksum) last.accepted
octets_of ApRep last = option_and_then (λ a. a.ap_rep) last.accepted
octets_of ServiceRealm last = option_map (λ l. l.service.realm) last.label
octets_of ServiceName last = option_map (λ l. text_of l.service.name.components) last.label
octets_of Error last = error_in last.label last.refusal
