-- EncryptedData (RFC 4120, section 5.2.9).
use Rattle.std.proofs.Common.{ℕ, List, refl}
use Rattle.krb_elements.specs.Codec.{Codec, Record, field, optional, end, sequence, int32, uint32, octets}
use Rattle.krb_fields.specs.declared.encrypted_data.EncryptedData as trees

abbrev pub EncryptedData : Type 0
EncryptedData = trees.EncryptedData (List ℕ)

-- generic in what differs between the owned and the borrowed form
unfoldable pub encrypted_data_form : {C : Type 0} → Codec C → Record (trees.EncryptedData C)
encrypted_data_form c = record {
  fields =
      field 0 (λ x. x.etype) int32
      (optional 1 (λ x. x.kvno) uint32
      (field 2 (λ x. x.cipher) c
      end));
  to = λ (etype, (kvno, (cipher, _))). record { etype = etype; kvno = kvno; cipher = cipher };
  there = λ v. refl;
  back = λ x. refl;
  rising = refl;
}

abbrev pub encrypted_data_of : {C : Type 0} → Codec C → Codec (trees.EncryptedData C)
encrypted_data_of c = sequence (encrypted_data_form c)

abbrev pub encrypted_data : Codec EncryptedData
encrypted_data = encrypted_data_of octets
