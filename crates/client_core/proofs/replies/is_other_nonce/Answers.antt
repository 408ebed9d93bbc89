use Rattle.std.proofs.Common.{◌≡◌, ◌∙◌, ℤ, ap, sym, not, rules, w64, SFits, of_z, to_z}
use Rattle.std.proofs.Math.Dec.{eqb}
use Rattle.std.proofs.Math.Facts.{to_z-of_z}
use Rattle.std.proofs.lemmas.Bool.{eqb-true, eq-eqb}
use Rattle.std.specs.Bool.{one_answer}
use Rattle.std.specs.Cmp.{signed_Decides}
use Rattle.std.specs.Ordering.{int_eq}
use Rattle.client_core.proofs.replies.is_other_nonce.Goals as goal

-- two numbers are equal exactly where their bits are
compared : (x y : ℤ) → SFits w64 x → SFits w64 y → eqb (of_z w64 x) (of_z w64 y) ≡ int_eq x y
compared x y f g = one_answer _ _ (
  (λ e. sym (to_z-of_z f) ∙ ap (to_z w64) (eqb-true (of_z w64 x) (of_z w64 y) e) ∙ to_z-of_z g),
  λ e. eq-eqb (of_z w64 x) (of_z w64 y) (ap (of_z w64) e),
)
    (signed_Decides x y)

pub returns : goal.returns
returns c =
    let found : SFits w64 c.get.result = search rules in
    let asked : SFits w64 c.from.result = search rules in
    ap not (compared c.get.result c.from.result found asked)
    ∙ (λ i. not (int_eq (c.get.ensures.value i) (c.from.ensures i)))
