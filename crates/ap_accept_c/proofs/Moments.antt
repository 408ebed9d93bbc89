-- A moment is determined by its numbers.
use Rattle.std.proofs.Common.{◌≡◌, ℕ, ℤ, subst}
use Rattle.std.proofs.Props.{props}
use Rattle.krb_elements.specs.Simple.{IsMicrosecond}
use Rattle.krb_fields.specs.Moment.{IsSecond}
use Rattle.krb_fields.specs.declared.moment.Moment.{Moment}

second_once : (s : ℤ) → IsProp (IsSecond s)
second_once s = hlevel props

microsecond_once : (u : ℕ) → IsProp (IsMicrosecond u)
microsecond_once u = hlevel props

abbrev made : (s : ℤ) (u : ℕ) → IsSecond s → IsMicrosecond u → Moment
made s u a b = record { sec = s; usec = u; sec_in_range = a; usec_in_range = b }

module _ (P : Moment → Type 0) where
  in_range : (s : ℤ) (u : ℕ) (a c : IsSecond s) (b d : IsMicrosecond u) → P (made s u a b) → P (made s u c d)
  in_range s u a c b d =
      subst P (λ i. record { sec = s; usec = u; sec_in_range = second_once s a c i; usec_in_range = microsecond_once u b d i })

  -- what holds of one holds of another with the same numbers
  pub at_the_same : (m n : Moment) → m.sec ≡ n.sec → m.usec ≡ n.usec → P m → P n
  at_the_same m n second microsecond =
      subst (λ (t : ℤ). (c : IsSecond t) → P m → P (made t n.usec c n.usec_in_range)) second
      (subst (λ (v : ℕ). (d : IsMicrosecond v) → (c : IsSecond m.sec) → P m → P (made m.sec v c d)) microsecond
      (λ d c. in_range m.sec m.usec m.sec_in_range c m.usec_in_range d) n.usec_in_range)
      n.sec_in_range
