-- The rule that has a name is found again by it.
use Rattle.std.proofs.Common.{◌≡◌, ℕ, List, [], ◌∷◌, Option, Some, None, if◌then◌else◌, refl, sym, ap, ◌∙◌}
use Rattle.std.specs.Prelude.{nat_eq}
use Rattle.std.specs.Cmp.Lexicographic.{pointwise}
use Rattle.as_exchange.specs.Refusal as as_refusals
use Rattle.as_exchange.specs.declared.refusal.AsRefusal.{AsRefusal}
use Rattle.as_exchange.specs.declared.refusal.AsRefusal.TheVariants.{BadVersion as AsBadVersion}
use Rattle.ap_req.specs.declared.refusal.ApRefusal.TheVariants.{BadVersion as ApBadVersion}
use Rattle.tgs_opening.specs.Refusal as tgs_refusals
use Rattle.tgs_opening.specs.declared.refusal.TgsRefusal.{TgsRefusal}
use Rattle.tgs_opening.specs.declared.refusal.TgsRefusal.TheVariants.{BadVersion as TgsBadVersion, Ap}
use Rattle.request_log.specs.Named.{AreDistinct}

-- the rule with this name, among these
named_among : {R : Type 0} → (R → List ℕ) → List R → List ℕ → Option R
named_among name [] text = None
named_among name (rule ∷ rules) text = if pointwise nat_eq (name rule) text then Some rule else named_among name rules text

same_some : {R : Type 0} (rule other : R) → Some rule ≡ Some other → rule ≡ other
same_some rule other e = cc

distinct : {R : Type 0} (name : R → List ℕ) (rules : List R) → ((rule : R) → named_among name rules (name rule) ≡ Some rule) → AreDistinct name
distinct name rules named rule other same = same_some rule other (sym (named rule) ∙ ap (named_among name rules) same ∙ named other)

as_named : (rule : AsRefusal)
    → named_among as_refusals.word_of as_refusals.all_refusals (as_refusals.word_of rule) ≡ Some rule
unfolding named_among
as_named AsBadVersion = refl
as_named _ = refl

tgs_named : (rule : TgsRefusal)
    → named_among tgs_refusals.word_of tgs_refusals.all_refusals (tgs_refusals.word_of rule) ≡ Some rule
unfolding named_among
tgs_named (Ap ApBadVersion) = refl
tgs_named (Ap _) = refl
tgs_named TgsBadVersion = refl
tgs_named _ = refl

pub as_distinct : AreDistinct as_refusals.word_of
as_distinct = distinct as_refusals.word_of as_refusals.all_refusals as_named

pub tgs_distinct : AreDistinct tgs_refusals.word_of
tgs_distinct = distinct tgs_refusals.word_of tgs_refusals.all_refusals tgs_named
