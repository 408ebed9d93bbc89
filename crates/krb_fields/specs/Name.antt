-- The components of a name, and their order.
use Rattle.std.specs.Prelude.{◌≡◌, ◌↔◌, ℕ, true, IsTrue, List}
use Rattle.std.proofs.Common.{ap, subst, is_eq}
use Rattle.std.specs.declared.cmp.Ordering.{Ordering}
use Rattle.std.specs.Ordering.{nat_cmp, eq_by_cmp}
use Rattle.std.specs.Cmp.{IsTotalOrder, Equal-is, tied_itself}
use Rattle.std.specs.Cmp.Lexicographic.{slice_cmp, nat_list_cmp_total, lists_total}
use Rattle.std.specs.Coded.{Coded, coded_ℕ, coded_list}
use Rattle.std.specs.FinMap.{IsAntisymmetric, slice_cmp-IsAntisymmetric, nat_cmp-IsAntisymmetric}

-- a name is its components, and a component is its bytes
abbrev pub Components : Type 0
Components = List (List ℕ)

-- as Rust orders a Vec<Vec<u8>>
abbrev pub name_cmp : Components → Components → Ordering
name_cmp = slice_cmp (slice_cmp nat_cmp)

-- names are coded as natural numbers, so that a finite map can have them as keys
abbrev pub coded_name : Coded Components
coded_name = coded_list (coded_list coded_ℕ)

pub name_total : IsTotalOrder name_cmp
name_total = lists_total nat_list_cmp_total

pub name_exact : IsAntisymmetric name_cmp
name_exact = slice_cmp-IsAntisymmetric (slice_cmp-IsAntisymmetric nat_cmp-IsAntisymmetric)

pub same_name : (a b : Components) → eq_by_cmp name_cmp a b ≡ true → a ≡ b
same_name a b e = name_exact a b ((Equal-is (name_cmp a b)).0 e)

-- names tie in the order exactly if they are equal
pub tied_exactly : (a b : Components) → IsTrue (eq_by_cmp name_cmp a b) ↔ (a ≡ b)
tied_exactly a b =
    (same_name a b, λ e. subst (λ c. IsTrue (eq_by_cmp name_cmp a c)) e (ap is_eq (tied_itself name_total a)))
