-- Counting one more request.
use Rattle.std.proofs.Common.{◌≡◌, ◌+◌, ◌<◌, ℕ, zero, suc, Bool, true, false, List, [], ◌∷◌, ◌++◌, length, get_or, refl, sym, ap, ◌∙◌, arith, if◌then◌else◌}
use Rattle.std.specs.Prelude.{count_by, nat_eq, replicate}
use Rattle.std.proofs.lemmas.Bool.{eqb-false, eqb-true}
use Rattle.std.proofs.lemmas.List.{get_or-set_other, get_or-set_same}
use Rattle.std.proofs.lemmas.List.Sums.{sum_by-append}
use Rattle.kdc_metrics.specs.Counts.{AreCountsOf, Asked, CountsOne, counted, increased, is_of_kind, is_reply, limited, replies_in, reply_place, requests_in}
use Rattle.kdc_metrics.specs.Places.{place}
use Rattle.kdc_metrics.specs.declared.counts.Counts.{Counts}

-- the count at a place, after the one at another was increased
pub increased_at : (counts : List ℕ) (place other : ℕ) → place < length counts
    → get_or (increased counts place) other 0 ≡ counted (nat_eq other place) (get_or counts other 0)
increased_at counts place other fits = by_case (nat_eq other place) refl
  where
    by_case : (b : Bool) → nat_eq other place ≡ b → get_or (increased counts place) other 0 ≡ counted b (get_or counts other 0)
    by_case true same =
        ap (λ p. get_or (increased counts place) p 0) (eqb-true other place same)
        ∙ get_or-set_same counts place (limited (get_or counts place 0 + 1)) 0 fits
        ∙ ap (λ p. limited (get_or counts p 0 + 1)) (sym (eqb-true other place same))
    by_case false other_one =
        get_or-set_other counts place other (limited (get_or counts place 0 + 1)) 0 (eqb-false other place other_one)

-- one more of a list, up to the greatest count
limited_more : (n : ℕ) (b : Bool) → counted b (limited n) ≡ limited (n + (if b then 1 else 0))
limited_more n true = grind arith
limited_more n false = grind arith

module _ {X : Type 0} (p : X → Bool) (xs : List X) (x : X) where
  count_more : count_by p (xs ++ x ∷ []) ≡ count_by p xs + (if p x then 1 else 0)
  count_more = grind (arith, sum_by-append)

  more : (count new : ℕ) → new ≡ counted (p x) count → count ≡ limited (count_by p xs) → new ≡ limited (count_by p (xs ++ x ∷ []))
  more count new one all =
      one ∙ ap (counted (p x)) all ∙ limited_more (count_by p xs) (p x) ∙ ap limited (sym count_more)

pub one_more : (old new : Counts) (asked : Asked) (all : List Asked) → CountsOne old asked new → AreCountsOf old all
    → AreCountsOf new (all ++ asked ∷ [])
one_more old new asked all one are = record {
  requests = λ kind. more (is_of_kind kind) all asked (requests_in old kind) (requests_in new kind) (one.requests kind) (are.requests kind);
  replies = λ transport is_sent. more (is_reply transport is_sent) all asked (replies_in old transport is_sent) (replies_in new transport is_sent)
      (one.replies transport is_sent) (are.replies transport is_sent);
}

-- ---- the beginning

abbrev zeros : ℕ → List ℕ
zeros n = replicate n 0

none_at : (n i : ℕ) → ◌≡◌ {A = ℕ} (get_or (zeros n) i 0) 0
none_at zero i = refl
none_at (suc n) zero = refl
none_at (suc n) (suc i) = none_at n i

pub none_counted : (counts : Counts) (n m : ℕ) → counts.requests ≡ zeros n → counts.replies ≡ zeros m → AreCountsOf counts []
none_counted counts n m requests replies = record {
  requests = λ kind. ap (λ l. get_or l (place kind) 0) requests ∙ none_at n (place kind);
  replies = λ transport is_sent. ap (λ l. get_or l (reply_place transport is_sent) 0) replies ∙ none_at m (reply_place transport is_sent);
}
