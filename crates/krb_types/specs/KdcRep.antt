-- KDC-REP (RFC 4120, section 5.4.2): AS-REP and TGS-REP, which differ only in their message type. It is also the number
-- of their tag.
use Rattle.std.proofs.Common.{◌≡◌, ℕ, ◌<◌, pos, List, true, refl, arith}
use Rattle.std.specs.Prelude.{bit_and}
use Rattle.std.specs.Int.Bits.{mask_lt}
use Rattle.std.proofs.lemmas.Int.{ints}
use Rattle.krb_elements.specs.Codec.{Codec, Record, field, optional, end, sequence, list_of, fixed, string}
use Rattle.krb_elements.specs.Simple.{IsInt32, is_within}
use Rattle.krb_fields.specs.declared.numbers.TheConstants.{PVNO}
use Rattle.krb_fields.specs.EncryptedData.{EncryptedData, encrypted_data}
use Rattle.krb_fields.specs.PaData.{PaData, pa_data}
use Rattle.krb_fields.specs.PrincipalName.{Name, name}
use Rattle.krb_types.specs.Ticket.{Ticket, ticket}
use Rattle.krb_types.specs.Under.{under}
use Rattle.krb_types.specs.declared.kdc_rep.KdcRep as trees

pub same_number : (n : ℕ) → n < 32 → is_within (pos n) (pos n) (pos n) ≡ true
same_number n lt = grind (arith, ints)

pub small_number : (n : ℕ) → n < 32 → IsInt32 (pos n)
small_number n lt = grind (arith, ints)

-- a message type, as the number of a tag below 32
abbrev pub message_type : ℕ → Codec (Unit {0})
message_type n =
    fixed (pos (bit_and n 31)) (same_number (bit_and n 31) (mask_lt n 5)) (small_number (bit_and n 31) (mask_lt n 5))

abbrev pub KdcRep : ℕ → Type 0
KdcRep type = trees.KdcRep type (List PaData) (List ℕ) Name Ticket EncryptedData

-- pvno and msg-type are fixed, so the value doesn't contain them
unfoldable pub kdc_rep_form : {P S N T E : Type 0} → (type : ℕ) → Codec P → Codec S → Codec N → Codec T → Codec E
    → Record (trees.KdcRep type P S N T E)
kdc_rep_form type p s n t e = record {
  fields =
      field 0 (λ x. tt) (fixed PVNO refl refl)
      (field 1 (λ x. tt) (message_type type)
      (optional 2 (λ x. x.padata) p
      (field 3 (λ x. x.crealm) s
      (field 4 (λ x. x.cname) n
      (field 5 (λ x. x.ticket) t
      (field 6 (λ x. x.enc_part) e
      end))))));
  to = λ (_, (_, (padata, (crealm, (cname, (ticket, (enc_part, _))))))). record {
    padata = padata;
    crealm = crealm;
    cname = cname;
    ticket = ticket;
    enc_part = enc_part;
  };
  there = λ v. refl;
  back = λ x. refl;
  rising = refl;
}

abbrev pub kdc_rep_of : {P S N T E : Type 0} → (type : ℕ) → Codec P → Codec S → Codec N → Codec T → Codec E
    → Codec (trees.KdcRep type P S N T E)
kdc_rep_of type p s n t e = under type (sequence (kdc_rep_form type p s n t e))

abbrev pub kdc_rep : (type : ℕ) → Codec (KdcRep type)
kdc_rep type = kdc_rep_of type (list_of pa_data) string name ticket encrypted_data
