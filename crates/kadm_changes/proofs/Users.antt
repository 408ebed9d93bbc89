-- The keys of entries that pass a test, entry by entry.
use Rattle.std.proofs.Common.{◌≡◌, ℕ, zero, suc, Bool, true, false, List, [], ◌∷◌, ◌++◌, map, take, slice_get}
use Rattle.std.proofs.Common.{Option, Some, None, refl, sym, ap, ◌∙◌}
use Rattle.std.specs.Prelude.{cond}
use Rattle.std.specs.List.{filter}

with_first : {K : Type 0} (b : Bool) (k e : K) (l m : List K) → l ≡ m ++ e ∷ [] → cond b (k ∷ l) l ≡ cond b (k ∷ m) m ++ e ∷ []
with_first true k e l m is = ap (λ t. k ∷ t) is
with_first false k e l m is = is

same_first : {K : Type 0} (b : Bool) (k : K) (l m : List K) → l ≡ m → cond b (k ∷ l) l ≡ cond b (k ∷ m) m
same_first true k l m is = ap (λ t. k ∷ t) is
same_first false k l m is = is

module _ {K V : Type 0} (test : K → Bool) where
  abbrev pub passing : List (K × V) → List K
  passing es = filter test (map (λ e. e.0) es)

  -- an entry that passes adds one
  one_passes : (es : List (K × V)) (i : ℕ) (e : K × V) → slice_get es i ≡ Some e → test e.0 ≡ true
      → passing (take (suc i) es) ≡ passing (take i es) ++ e.0 ∷ []
  one_passes [] i e at passes = absurd cc
  one_passes (x ∷ es) zero e at passes =
      let is : x ≡ e = cc in
      let first : test x.0 ≡ true = ap (λ y. test y.0) is ∙ passes in rw first (ap (λ y. y.0 ∷ []) is)
  one_passes (x ∷ es) (suc i) e at passes =
      with_first (test x.0) x.0 e.0 (passing (take (suc i) es)) (passing (take i es)) (one_passes es i e at passes)

  -- one that does not adds none
  none_passes : (es : List (K × V)) (i : ℕ) (e : K × V) → slice_get es i ≡ Some e → test e.0 ≡ false
      → passing (take (suc i) es) ≡ passing (take i es)
  none_passes [] i e at fails = absurd cc
  none_passes (x ∷ es) zero e at fails =
      let is : x ≡ e = cc in
      let first : test x.0 ≡ false = ap (λ y. test y.0) is ∙ fails in rw first refl
  none_passes (x ∷ es) (suc i) e at fails =
      same_first (test x.0) x.0 (passing (take (suc i) es)) (passing (take i es)) (none_passes es i e at fails)

  -- there is no entry at this index
  past_all : (es : List (K × V)) (i : ℕ) → slice_get es i ≡ None → passing (take (suc i) es) ≡ passing (take i es)
  past_all [] zero at = refl
  past_all [] (suc i) at = refl
  past_all (x ∷ es) zero at = absurd cc
  past_all (x ∷ es) (suc i) at =
      same_first (test x.0) x.0 (passing (take (suc i) es)) (passing (take i es)) (past_all es i at)

  -- the effect of the entry at an index, if there is one
  abbrev pub with_entry : Option (K × V) → List K → List K
  with_entry (Some e) found = cond (test e.0) (found ++ e.0 ∷ []) found
  with_entry None found = found

  pub stepped : (es : List (K × V)) (i : ℕ) (o : Option (K × V)) (found : List K) → o ≡ slice_get es i
      → found ≡ passing (take i es) → with_entry o found ≡ passing (take (suc i) es)
  stepped es i (Some e) found at is = by (test e.0) refl
    where
      by : (b : Bool) → test e.0 ≡ b → cond b (found ++ e.0 ∷ []) found ≡ passing (take (suc i) es)
      by true passes = ap (λ l. l ++ e.0 ∷ []) is ∙ sym (one_passes es i e (sym at) passes)
      by false fails = is ∙ sym (none_passes es i e (sym at) fails)
  stepped es i None found at is = is ∙ sym (past_all es i (sym at))
