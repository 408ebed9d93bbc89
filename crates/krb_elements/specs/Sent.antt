-- A value with its bytes as they were sent.
use Rattle.std.specs.Prelude.{ℕ, List, refl}
use Rattle.std.specs.Coded.{Coded, code_by, coded×, coded_list, coded_ℕ}

pub record WithOctets (A : Type 0) : Type 0 where
  pub value : A
  pub octets : List ℕ

abbrev pub with_octets_code : {A : Type 0} → Coded A → Coded (WithOctets A)
with_octets_code {A} code =
    code_by (A × List ℕ) (coded× code (coded_list coded_ℕ)) (λ x. (x.value, x.octets))
    (λ y. record { value = y.0; octets = y.1 }) (λ _. refl)
