-- The length of a value's encoding, compared with the bytes that it was read from.
use Rattle.std.proofs.Common.{ℕ, ◌<◌, ◌*◌, List, length, Result, Ok, Err, arith}
use Rattle.std.specs.Prelude.{IfOk}
use Rattle.krb_der.specs.Spelling.{IsBytes}
use Rattle.krb_elements.specs.Codec.{Codec}
use Rattle.krb_elements.specs.WrittenLaws.{tlv_longer}

-- the encoding has less than three times the length of these bytes
pub short_if_read : {A E : Type 0} (codec : Codec A) (r : Result A E) (bytes : List ℕ) → IsBytes bytes → IfOk r (λ x. codec.Spells x bytes) → IfOk r (λ x. length (codec.text x) < 3 * length bytes)
short_if_read codec (Ok x) bytes fits h = omega (arith, tlv_longer codec.tag (codec.text x), codec.laws.short.is x bytes fits h)
short_if_read codec (Err e) bytes fits h = tt
