-- How the encoding of a decoded value compares with the bytes that it was decoded from.
use Rattle.std.proofs.Common.{◌≡◌, ℕ, ◌<◌, ◌*◌, List, length, Result, Ok, Err, arith}
use Rattle.std.specs.Prelude.{IfOk, IsTrue}
use Rattle.krb_der.specs.Spelling.{IsBytes}
use Rattle.krb_elements.specs.Codec.{Codec, written}
use Rattle.krb_elements.specs.WrittenLaws.{tlv_longer}

-- it has less than three times the length of these bytes
pub short_if_decoded : {A E : Type 0} (codec : Codec A) (r : Result A E) (bytes : List ℕ) → IsBytes bytes
    → IfOk r (λ x. codec.Spells x bytes) → IfOk r (λ x. length (codec.text x) < 3 * length bytes)
short_if_decoded codec (Ok x) bytes fits h =
    omega (arith, tlv_longer codec.tag (codec.text x), codec.laws.short.is x bytes fits h)
short_if_decoded codec (Err e) bytes fits h = tt

-- it is these bytes, if no value has two encodings
pub one_if_decoded : {A E : Type 0} (codec : Codec A) → IsTrue codec.has_one → (r : Result A E) (bytes : List ℕ)
    → IsBytes bytes → IfOk r (λ x. codec.Spells x bytes) → IfOk r (λ x. bytes ≡ written codec x)
one_if_decoded codec has (Ok x) bytes fits h = (codec.laws.one has).is x bytes fits h
one_if_decoded codec has (Err e) bytes fits h = tt
