use Rattle.std.proofs.Common.{◌≡◌, ◌↔◌, ℕ, zero, suc, Bool, true, false, IsTrue, nat_eq, length, refl, sym, ap, ◌∙◌, arith}
use Rattle.std.proofs.lemmas.Bool.Decides.{nat_tests}
use Rattle.std.specs.FinMap.{len-entries, entries-from_sorted}
use Rattle.std.specs.FinMap as map
use Rattle.replay.specs.Stamp.{stamp_cmp}
use Rattle.replay.proofs.pairs.Pairs.is_empty.Goals as goal

is_none : (b : Bool) (n : ℕ) → IsTrue b ↔ (n ≡ 0) → b ≡ nat_eq n 0
is_none true n tied = let none = tied.0 refl in rw none refl
is_none false zero tied = tied.1 refl
is_none false (suc n) tied = grind (arith, nat_tests)

pub returns : goal.returns
returns g c =
    is_none c.is_empty.result (length c.self.inside.kept.entries) c.is_empty.ensures
    ∙ ap (λ n. nat_eq n 0)
    (ap (λ l. length l) (sym (entries-from_sorted stamp_cmp c.self.inside.kept.entries c.self.invariant)) ∙ sym (len-entries _) ∙ ap map.len c.self.view_is)
