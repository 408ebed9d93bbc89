-- Reading the parts of a message: each definition is one way to combine readings.
use Rattle.std.specs.Prelude.{◌≡◌, ℕ, suc, zero, Bool, false, List, [], ◌∷◌, length, Option, Some, None, Result, Ok}
use Rattle.std.specs.Prelude.{Err, ◌==◌, if◌then◌else◌}
use Rattle.krb_der.specs.declared.fault.DerFault.{DerFault}
use Rattle.krb_der.specs.declared.fault.DerFault.TheVariants.{Trailing}
use Rattle.krb_der.specs.Reading.{◌>>=◌, tlv_at}
use Rattle.krb_elements.specs.Sent.{WithOctets}
use Rattle.krb_elements.specs.declared.fault.Fault.{Fault}
use Rattle.krb_elements.specs.declared.fault.Fault.TheVariants as faults

-- ---- the result of a function, compared with what reading gives

abbrev pub Fails : {Y : Type 0} → Fault → Result Y DerFault → Type 0
Fails faults.Memory read = Unit {0}
Fails (faults.Der f) read = read ≡ Err f

-- The result is what reading gives, unless memory ran out.
abbrev pub Decodes : {X : Type 0} → Result X Fault → Result X DerFault → Type 0
Decodes (Ok x) read = read ≡ Ok x
Decodes (Err e) read = Fails e read

-- The result is what reading gives.
abbrev pub Sees : {X : Type 0} → Result X DerFault → Result X DerFault → Type 0
Sees (Ok x) read = read ≡ Ok x
Sees (Err e) read = read ≡ Err e

abbrev pub Looks : {X : Type 0} → Result X DerFault → List ℕ → Result (X × List ℕ) DerFault → Type 0
Looks (Ok x) left read = read ≡ Ok (x, left)
Looks (Err e) left read = read ≡ Err e

-- The value was read, unless memory ran out.
abbrev pub IsReadUnlessMemory : {X : Type 0} → Result X Fault → X → Type 0
IsReadUnlessMemory (Ok y) x = y ≡ x
IsReadUnlessMemory (Err faults.Memory) x = Unit {0}
IsReadUnlessMemory (Err (faults.Der f)) x = ⊥

-- ---- values

-- a value that takes up all of the bytes
abbrev pub whole : {A : Type 0} → (List ℕ → Result (A × List ℕ) DerFault) → List ℕ → Result A DerFault
whole f bytes = f bytes >>= λ x. if length x.1 == 0 then Ok x.0 else Err Trailing

-- the contents of the value with this tag
abbrev pub inside : {A : Type 0} → ℕ → (List ℕ → Result A DerFault) → List ℕ → Result (A × List ℕ) DerFault
inside tag f bytes = tlv_at tag bytes >>= λ c. f c.0 >>= λ x. Ok (x, c.1)

-- a value that passes a test
abbrev pub such : {A : Type 0} → (A → Bool) → DerFault → (List ℕ → Result (A × List ℕ) DerFault) → List ℕ
    → Result (A × List ℕ) DerFault
such test fault f bytes = f bytes >>= λ x. if test x.0 then Ok x else Err fault

-- the part of a value that is kept
abbrev pub seen_as : {A B : Type 0} → (A → B) → (List ℕ → Result (A × List ℕ) DerFault) → List ℕ
    → Result (B × List ℕ) DerFault
seen_as to f bytes = f bytes >>= λ x. Ok (to x.0, x.1)

-- ---- fields in order, with nothing left after them

-- the next value has this tag
abbrev pub starts : ℕ → List ℕ → Bool
starts tag [] = false
starts tag (b ∷ rest) = b == tag

abbrev pub end : List ℕ → Result (Unit {0}) DerFault
end bytes = if length bytes == 0 then Ok tt else Err Trailing

-- a field whose contents are read as a whole, followed by all later ones
abbrev pub field_of : {A B : Type 0} → ℕ → (List ℕ → Result A DerFault) → (List ℕ → Result B DerFault) → List ℕ
    → Result (A × B) DerFault
field_of tag w g bytes = inside tag w bytes >>= λ x. g x.1 >>= λ y. Ok (x.0, y)

-- a field, followed by all later ones
abbrev pub field : {A B : Type 0} → ℕ → (List ℕ → Result (A × List ℕ) DerFault) → (List ℕ → Result B DerFault) → List ℕ
    → Result (A × B) DerFault
field tag f = field_of tag (whole f)

-- a value and its bytes as they were sent
abbrev pub with_octets : {A : Type 0} → List ℕ → A → WithOctets A
with_octets bytes x = record { value = x; octets = bytes }

abbrev pub sent : {A : Type 0} → (List ℕ → Result A DerFault) → List ℕ → Result (WithOctets A) DerFault
sent w bytes = w bytes >>= λ x. Ok (with_octets bytes x)

-- an optional field
abbrev pub maybe : {A : Type 0} → ℕ → (List ℕ → Result (A × List ℕ) DerFault) → List ℕ
    → Result (Option A × List ℕ) DerFault
maybe tag f bytes =
    if starts tag bytes then (inside tag (whole f) bytes >>= λ x. Ok (Some x.0, x.1)) else Ok (None, bytes)

abbrev pub optional : {A B : Type 0} → ℕ → (List ℕ → Result (A × List ℕ) DerFault) → (List ℕ → Result B DerFault)
    → List ℕ → Result (Option A × B) DerFault
optional tag f g bytes = maybe tag f bytes >>= λ x. g x.1 >>= λ y. Ok (x.0, y)

-- the value made from the fields
abbrev pub made : {A B : Type 0} → (A → B) → (List ℕ → Result A DerFault) → List ℕ → Result B DerFault
made to f bytes = f bytes >>= λ x. Ok (to x)

-- ---- lists

-- values in order, at most this many, with nothing left after them
unfoldable pub items : {A : Type 0} → (List ℕ → Result (A × List ℕ) DerFault) → ℕ → List ℕ → Result (List A) DerFault
items f n [] = Ok []
items f zero (b ∷ bytes) = Err Trailing
items f (suc n) (b ∷ bytes) = f (b ∷ bytes) >>= λ x. items f n x.1 >>= λ xs. Ok (x.0 ∷ xs)

-- all values: each takes at least a byte, so there are no more of them than bytes
abbrev pub items_of : {A : Type 0} → (List ℕ → Result (A × List ℕ) DerFault) → List ℕ → Result (List A) DerFault
items_of f bytes = items f (length bytes) bytes

abbrev pub list_at : {A : Type 0} → (List ℕ → Result (A × List ℕ) DerFault) → List ℕ → Result (List A × List ℕ) DerFault
list_at f = inside 48 (items_of f)

-- one more value, if it was read
abbrev pub and_then : {A : Type 0} → Result A DerFault → List A → List A
and_then (Ok x) xs = x ∷ xs
and_then (Err e) xs = xs

-- the values of the elements of a list, each read on its own
abbrev pub values : {A : Type 0} → (List ℕ → Result (A × List ℕ) DerFault) → List (List ℕ) → List A
values f [] = []
values f (e ∷ es) = and_then (whole f e) (values f es)
