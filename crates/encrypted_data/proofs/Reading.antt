-- What was encrypted can be read again.
use Rattle.std.proofs.Common.{◌≡◌, ℕ, ◌+◌, ◌≤◌, List, length, Option, Some, Result, Ok, Err, IfOk, ap, ◌∙◌, arith}
use Rattle.krb_der.specs.declared.fault.DerFault.{DerFault}
use Rattle.krb_elements.specs.Codec.{Codec, written}
use Rattle.krb_elements.specs.Laws.{whole_ok}
use Rattle.krb_elements.specs.ShortTextLaws.{tlv_short}
use Rattle.encrypted_data.specs.Parts.{ok_of, read_as}

-- if the decrypted text encodes the value
pub read_again : {A : Type 0} (c : Codec A) (x : A) (text : List ℕ) (found : Option (List ℕ)) → c.Spells x text → found ≡ Some text → read_as c found ≡ Some x
read_again {A} c x text found s opens =
    ap (λ (o : Option (List ℕ)). read_as c o) opens ∙ ap (λ (r : Result A DerFault). ok_of r) ((whole_ok c.Spells c.at c.laws.element.reading).again x text s)

-- the same for the result of a call
pub returned_again : {A V E : Type 0} (c : Codec A) (x : A) (text : List ℕ) (found : V → Option (List ℕ)) (r : Result V E) → c.Spells x text
    → IfOk r (λ v. found v ≡ Some text) → IfOk r (λ v. read_as c (found v) ≡ Some x)
returned_again c x text found (Ok v) s opens = read_again c x text (found v) s opens
returned_again c x text found (Err e) s opens = tt

-- an upper bound on the length of the cipher
pub returned_short : {A V E : Type 0} (c : Codec A) (x : A) (text : List ℕ) (octets : V → List ℕ) (r : Result V E) → text ≡ written c x
    → IfOk r (λ v. length (octets v) ≤ 40 + length text) → IfOk r (λ v. length (octets v) ≤ 46 + length (c.text x))
returned_short c x text octets (Ok v) e few = omega (arith, few, ap length e, tlv_short c.tag (c.text x))
returned_short c x text octets (Err f) e few = tt
