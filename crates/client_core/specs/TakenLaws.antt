-- A credential that a client reads is in a reply to the request.
use Rattle.std.proofs.Common.{◌≡◌, ℕ, ℤ, pos, Bool, true, false, List, Option, Some, None, Result, Ok, Err, refl, ap}
use Rattle.std.proofs.Common.{sym, ◌∙◌}
use Rattle.std.specs.Prelude.{◌&&◌, ◌||◌, not, IfOk, if◌then◌else◌, nat_eq}
use Rattle.std.specs.Bool.{then_some}
use Rattle.std.specs.Cmp.Lexicographic.{pointwise, bytes_decides}
use Rattle.std.specs.Ordering.{int_eq, eq_by_cmp}
use Rattle.std.proofs.lemmas.Bool.Decides.{Decides-int_eq}
use Rattle.cred_files.specs.declared.credential.Credential.{Credential}
use Rattle.enctypes.specs.declared.key.Key.{Key}
use Rattle.krb_der.specs.declared.fault.DerFault.{DerFault}
use Rattle.krb_elements.specs.Format.{whole}
use Rattle.krb_fields.specs.declared.numbers.TheConstants.{PVNO}
use Rattle.krb_fields.specs.Name.{name_cmp, same_name}
use Rattle.krb_fields.specs.PrincipalName.{Name}
use Rattle.krb_types.specs.EncKdcRepPart.{EncKdcRepPart}
use Rattle.krb_types.specs.KdcRep.{KdcRep, kdc_rep}
use Rattle.rule_lists.specs.ClearLaws.{decided_clear}
use Rattle.rule_lists.specs.RefusalLaws.{decided_found}
use Rattle.rule_lists.specs.Refusals.{unless_found}
use Rattle.encrypted_data.specs.Parts.{ok_of}
use Rattle.client_core.specs.declared.asked.Asked.{Asked}
use Rattle.client_core.specs.declared.fault.ReplyError.{ReplyError}
use Rattle.client_core.specs.declared.fault.ReplyRefusal.{ReplyRefusal}
use Rattle.client_core.specs.declared.fault.ReplyRefusal.TheVariants.{Unopened}
use Rattle.client_core.specs.declared.key_role.KeyRole.{KeyRole}
use Rattle.client_core.specs.Credentials.{credential_in, credential_of, has_room}
use Rattle.client_core.specs.Faults.{Gives, unless_rejected}
use Rattle.client_core.specs.Replies.{ends_too_late, if_part, if_reply, is_principal, of_version, opened_as, part_of}
use Rattle.client_core.specs.Replies.{part_rules, reads, refusal_in, reply_rules, starts_elsewhere, taken}
use Rattle.client_core.specs.Taken.{AreSame, IsTaken}

-- ---- tests

not_false : (b : Bool) → not b ≡ false → b ≡ true
not_false true e = refl
not_false false e = absurd cc

neither : (a b : Bool) → (a || b) ≡ false → (a ≡ false) × (b ≡ false)
neither true b e = absurd cc
neither false b e = (refl, e)

both : (a b : Bool) → (a && b) ≡ true → (a ≡ true) × (b ≡ true)
both true b e = (refl, e)
both false b e = absurd cc

same : (realm : List ℕ) (name : Name) (other_realm : List ℕ) (other_name : Name)
    → not (is_principal realm name other_realm other_name) ≡ false → AreSame realm name other_realm other_name
same realm name other_realm other_name e =
    let named = eq_by_cmp name_cmp name.components other_name.components in
    let are = both (pointwise nat_eq realm other_realm) named (not_false _ e) in
    record {
      realms = (bytes_decides realm other_realm).0 are.0;
      names = same_name name.components other_name.components are.1;
    }

equal : (m n : ℤ) → not (int_eq m n) ≡ false → m ≡ n
equal m n e = (Decides-int_eq m n).0 (not_false (int_eq m n) e)

given : {A : Type 0} (b : Bool) (x y : A) → then_some b x ≡ Some y → y ≡ x
given {A} true x y e = sym (ap (λ (o : Option A). value o) e)
  where
    value : Option A → A
    value (Some z) = z
    value None = x
given false x y e = absurd cc

-- ---- the stages, from the last

module _ (type : ℕ) (role : KeyRole) (asked : Asked) (key : Key) (now : ℤ) (bytes : List ℕ)
    (credential : Credential) where
  by_credential : (reply : KdcRep type) (part : EncKdcRepPart) → whole (kdc_rep type).at bytes ≡ Ok reply
      → part_of type asked key reply (opened_as role key reply.enc_part) ≡ Ok part
      → taken type asked now reply part ≡ Ok credential
      → IsTaken type role asked key now bytes credential
  by_credential reply part read found gives =
      let opened = opened_as role key reply.enc_part in
      let held = credential_in type reply part in
      let ours = decided_clear (reply_rules type asked key reply) opened Unopened part found in
      let asks = decided_clear (part_rules asked now reply.ticket part) held Unopened credential gives in
      let other = not (is_principal part.srealm part.sname asked.realm asked.service) in
      let ticket_other = not (is_principal reply.ticket.realm reply.ticket.sname asked.realm asked.service) in
      let service = neither other ticket_other asks.1.0 in
      let times = neither (ends_too_late asked part) (starts_elsewhere asked now part) asks.1.1.0 in
      record {
        reply = reply;
        part = part;
        spelled = read;
        opens = decided_found (reply_rules type asked key reply) opened Unopened part found;
        client = same reply.crealm reply.cname asked.realm asked.client ours.0;
        nonce = equal part.nonce (pos asked.nonce) asks.0;
        service = same part.srealm part.sname asked.realm asked.service service.0;
        ticket_service = same reply.ticket.realm reply.ticket.sname asked.realm asked.service service.1;
        ends = times.0;
        starts = times.1;
        is = given (has_room part) (credential_of type reply part) credential
            (decided_found (part_rules asked now reply.ticket part) held Unopened credential gives);
      }

  by_taken : (reply : KdcRep type) (part : EncKdcRepPart) → whole (kdc_rep type).at bytes ≡ Ok reply
      → part_of type asked key reply (opened_as role key reply.enc_part) ≡ Ok part
      → (r : Result Credential ReplyRefusal) → taken type asked now reply part ≡ r → unless_rejected r ≡ Ok credential
      → IsTaken type role asked key now bytes credential
  by_taken reply part read found (Ok c) gives e =
      by_credential reply part read found (gives ∙ ap (λ (r : Result Credential ReplyError). again r) e)
    where
      again : Result Credential ReplyError → Result Credential ReplyRefusal
      again (Ok x) = Ok x
      again (Err fault) = Ok c
  by_taken reply part read found (Err rejection) gives e = absurd cc

  by_part : (reply : KdcRep type) → whole (kdc_rep type).at bytes ≡ Ok reply → (r : Result EncKdcRepPart ReplyRefusal)
      → part_of type asked key reply (opened_as role key reply.enc_part) ≡ r
      → unless_rejected (if_part type asked now reply r) ≡ Ok credential
      → IsTaken type role asked key now bytes credential
  by_part reply read (Ok part) found e = by_taken reply part read found (taken type asked now reply part) refl e
  by_part reply read (Err rejection) found e = absurd cc

  by_version : (reply : KdcRep type) → whole (kdc_rep type).at bytes ≡ Ok reply → (b : Bool)
      → if_reply type role asked key now (unless_found (if b then Some reply else None) (refusal_in bytes))
      ≡ Ok credential
      → IsTaken type role asked key now bytes credential
  by_version reply read true e =
      by_part reply read (part_of type asked key reply (opened_as role key reply.enc_part)) refl e
  by_version reply read false e = absurd cc

  by_reply : (r : Result (KdcRep type) DerFault) → whole (kdc_rep type).at bytes ≡ r
      → if_reply type role asked key now (unless_found (of_version type (ok_of r)) (refusal_in bytes)) ≡ Ok credential
      → IsTaken type role asked key now bytes credential
  by_reply (Ok reply) read e = by_version reply read (int_eq reply.ticket.tkt_vno PVNO) e
  by_reply (Err fault) read e = absurd cc

  pub taken_is : reads type role asked key now bytes ≡ Ok credential → IsTaken type role asked key now bytes credential
  taken_is e = by_reply (whole (kdc_rep type).at bytes) refl e

-- the same for what a call returned
pub taken_if : (type : ℕ) (role : KeyRole) (asked : Asked) (key : Key) (now : ℤ) (bytes : List ℕ)
    (r : Result Credential ReplyError) → Gives r (reads type role asked key now bytes)
    → IfOk r (λ credential. IsTaken type role asked key now bytes credential)
taken_if type role asked key now bytes (Ok credential) gives = taken_is type role asked key now bytes credential gives
taken_if type role asked key now bytes (Err fault) gives = tt
