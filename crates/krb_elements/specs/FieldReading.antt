-- Reading the fields of a message in order. The check that nothing is left comes after the last one.
use Rattle.std.specs.Prelude.{ℕ, if◌then◌else◌, List, Option, Result, Ok}
use Rattle.krb_der.specs.declared.fault.DerFault.{DerFault}
use Rattle.krb_der.specs.Reading.{◌>>=◌}
use Rattle.krb_elements.specs.Sent.{WithOctets}
use Rattle.krb_elements.specs.Format.{whole, inside, maybe, sent, seen_as, starts}

-- no more fields
abbrev pub nothing : List ℕ → Result (Unit {0} × List ℕ) DerFault
nothing bytes = Ok (tt, bytes)

-- a field, followed by the later ones
abbrev pub then_field : {A B : Type 0} → ℕ → (List ℕ → Result (A × List ℕ) DerFault)
    → (List ℕ → Result (B × List ℕ) DerFault) → List ℕ → Result ((A × B) × List ℕ) DerFault
then_field tag f g bytes = inside tag (whole f) bytes >>= λ x. g x.1 >>= λ y. Ok ((x.0, y.0), y.1)

-- an optional field, followed by the later ones
abbrev pub then_maybe : {A B : Type 0} → ℕ → (List ℕ → Result (A × List ℕ) DerFault)
    → (List ℕ → Result (B × List ℕ) DerFault) → List ℕ → Result ((Option A × B) × List ℕ) DerFault
then_maybe tag f g bytes = maybe tag f bytes >>= λ x. g x.1 >>= λ y. Ok ((x.0, y.0), y.1)

-- a field and its bytes as they were sent, followed by the later ones
abbrev pub then_sent : {A B : Type 0} → ℕ → (List ℕ → Result (A × List ℕ) DerFault)
    → (List ℕ → Result (B × List ℕ) DerFault) → List ℕ → Result ((WithOctets A × B) × List ℕ) DerFault
then_sent tag f g bytes = inside tag (sent (whole f)) bytes >>= λ x. g x.1 >>= λ y. Ok ((x.0, y.0), y.1)

abbrev pub beside : {K A : Type 0} → K → A → K × A
beside k x = (k, x)

-- a value in one of two tags, and what the tag stands for: the second tag if it is there, otherwise the first
abbrev pub either_inside : {K A : Type 0} → ℕ × K → ℕ × K → (List ℕ → Result (A × List ℕ) DerFault) → List ℕ
    → Result ((K × A) × List ℕ) DerFault
either_inside first second f bytes =
    if starts second.0 bytes then seen_as (beside second.1) (inside second.0 (whole f)) bytes
    else seen_as (beside first.1) (inside first.0 (whole f)) bytes
