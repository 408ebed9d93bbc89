-- The elements of a list in order, each as all of its bytes.
use Rattle.std.specs.Prelude.{ℕ, zero, suc, List, [], ◌∷◌, length, Result, Ok, Err}
use Rattle.krb_der.specs.declared.fault.DerFault.{DerFault}
use Rattle.krb_der.specs.declared.fault.DerFault.TheVariants.{Truncated}
use Rattle.krb_der.specs.Spelling.{tlv}
use Rattle.krb_der.specs.Reading.{◌>>=◌, tlv_at}

-- the value at the front, with any tag, and what follows it
unfoldable pub element_at : List ℕ → Result (List ℕ × List ℕ) DerFault
element_at [] = Err Truncated
element_at (tag ∷ bytes) = tlv_at tag (tag ∷ bytes) >>= λ c. Ok (tlv tag c.0, c.1)

-- the first element, if there is one, followed by what `others` returns for the bytes after it
abbrev pub first_and : Result (List ℕ × List ℕ) DerFault → (List ℕ → List (List ℕ)) → List (List ℕ)
first_and (Ok x) others = x.0 ∷ others x.1
first_and (Err e) others = []

-- at most this many elements, up to the first place that is not an element
unfoldable pub elements_from : ℕ → List ℕ → List (List ℕ)
elements_from zero bytes = []
elements_from (suc n) bytes = first_and (element_at bytes) (elements_from n)

-- all elements: each takes at least a byte, so there are no more of them than bytes
abbrev pub elements : List ℕ → List (List ℕ)
elements bytes = elements_from (length bytes) bytes
