-- A run reads no further than to the first byte beyond the limit.
use Rattle.std.proofs.Common.{◌≡◌, ◌≤◌, ℕ, zero, suc, ◌+◌, ◌-◌, ◌<◌, Bool, true, false, cond, eqb, List, [], ◌∷◌, None, Some, IfSome, length, take, refl, sym, ap, subst, ◌∙◌, arith, inl, inr, take_all, length-take-le, length-append}
use Rattle.std.specs.Prelude.{Option}
use Rattle.std.proofs.lemmas.Bool.{cases_lt}
use Rattle.std.specs.Io.BufRead.{take_through, drop_through}
use Rattle.kdc_state.specs.declared.state.State.{State}
use Rattle.kdcd.specs.Script.{lines_of, IsRun, IsScript, PrintsScript, read_part}
use Rattle.kdcd.proofs.Lines.{first_line, through_whole}

none_taken : (n : ℕ) → take n (let l : List ℕ = [] in l) ≡ []
none_taken zero = refl
none_taken (suc n) = refl

-- the first line of the first m bytes, and what follows it
first_through : (m : ℕ) (xs : List ℕ) → take_through 10 (take m xs) ≡ take m (take_through 10 xs)
first_through zero xs = refl
first_through (suc m) [] = refl
first_through (suc m) (x ∷ xs) = step (eqb x 10) (first_through m xs)
  where
    step : (b : Bool) → take_through 10 (take m xs) ≡ take m (take_through 10 xs)
        → cond b (x ∷ []) (x ∷ take_through 10 (take m xs)) ≡ take (suc m) (cond b (x ∷ []) (x ∷ take_through 10 xs))
    step true e = ap (λ l. x ∷ l) (sym (none_taken m))
    step false e = ap (λ l. x ∷ l) e

one_less : (m n : ℕ) → m - n ≡ suc m - suc n
one_less m n = omega arith

less_one : (m : ℕ) → m ≡ suc m - 1
less_one m = omega arith

rest_through : (m : ℕ) (xs : List ℕ) → drop_through 10 (take m xs) ≡ take (m - length (take_through 10 xs)) (drop_through 10 xs)
rest_through zero xs = ap (λ k. take k (drop_through 10 xs)) (sym (none_left (length (take_through 10 xs))))
  where
    none_left : (n : ℕ) → 0 - n ≡ 0
    none_left n = omega arith
rest_through (suc m) [] = sym (none_taken (suc m - 0))
rest_through (suc m) (x ∷ xs) = step (eqb x 10) (rest_through m xs)
  where
    step : (b : Bool) → drop_through 10 (take m xs) ≡ take (m - length (take_through 10 xs)) (drop_through 10 xs)
        → cond b (take m xs) (drop_through 10 (take m xs)) ≡ take (suc m - length (cond b (x ∷ []) (x ∷ take_through 10 xs))) (cond b xs (drop_through 10 xs))
    step true e = ap (λ k. take k xs) (less_one m)
    step false e = e ∙ ap (λ k. take k (drop_through 10 xs)) (one_less m (length (take_through 10 xs)))

-- so the lines of the first bytes
lines_within : (m o : ℕ) (os : List ℕ) → lines_of (take (suc m) (o ∷ os)) ≡ take (suc m) (take_through 10 (o ∷ os)) ∷ lines_of (take (suc m - length (take_through 10 (o ∷ os))) (drop_through 10 (o ∷ os)))
lines_within m o os =
    first_line o (take m os) ∙ (λ k. first_through (suc m) (o ∷ os) k ∷ lines_of (rest_through (suc m) (o ∷ os) k))

-- a line has a byte
some_line : (o : ℕ) (os : List ℕ) → 0 < length (take_through 10 (o ∷ os))
some_line o os = at (eqb o 10)
  where
    at : (b : Bool) → 0 < length (cond b (o ∷ []) (o ∷ take_through 10 os))
    at true = omega arith
    at false = omega arith

cut_run : (n : ℕ) (xs : List ℕ) → length xs ≤ n → (kdc : Option State) (number before : ℕ) (printed : List ℕ) (status : ℕ) → before ≤ 16777216
    → IsRun kdc number before (lines_of xs) printed status → IsRun kdc number before (lines_of (take (16777217 - before) xs)) printed status
cut_run n [] few kdc number before printed status early run =
    subst (λ (l : List ℕ). IsRun kdc number before (lines_of l) printed status) (sym (take_all (16777217 - before) [] (omega arith))) run
cut_run zero (o ∷ os) few kdc number before printed status early run = absurd (omega (arith, few))
cut_run (suc n) (o ∷ os) few kdc number before printed status early run =
    let line = take_through 10 (o ∷ os) in
    let rest = drop_through 10 (o ∷ os) in
    let m = 16777216 - before in
    let left : 16777217 - before ≡ suc m = omega (arith, early) in
    let some = some_line o os in
    let shorter : length rest ≤ n = (let e = ap length (through_whole (o ∷ os)) in let f = length-append line rest in omega (arith, e, f, few, some)) in
    let is : IsRun kdc number before (line ∷ lines_of rest) printed status = subst (λ (ls : List (List ℕ)). IsRun kdc number before ls printed status) (first_line o os) run in
    subst (λ (l : List (List ℕ)). IsRun kdc number before l printed status)
    (sym (ap (λ k. lines_of (take k (o ∷ os))) left ∙ lines_within m o os))
    (cut_line line rest m before early refl kdc number printed status
    (λ after next later status. cut_run n rest shorter after (number + 1) next later status) is)
  where
    cut_line : (line rest : List ℕ) (m before : ℕ) → before ≤ 16777216 → m ≡ 16777216 - before → (kdc : Option State) (number : ℕ) (printed : List ℕ) (status : ℕ)
        → ((after : Option State) (next : ℕ) (later : List ℕ) (status : ℕ) → next ≤ 16777216 → IsRun after (number + 1) next (lines_of rest) later status
        → IsRun after (number + 1) next (lines_of (take (16777217 - next) rest)) later status)
        → IsRun kdc number before (line ∷ lines_of rest) printed status
        → IsRun kdc number before (take (suc m) line ∷ lines_of (take (suc m - length line) rest)) printed status
    cut_line line rest m before early m_is kdc number printed status later_cut run = elim (cases_lt m (length line)) [
      | inr few ↦
          let same : take (suc m) line ≡ line = take_all (suc m) line (omega (arith, few)) in
          subst (λ (l : List ℕ). IsRun kdc number before (l ∷ lines_of (take (suc m - length line) rest)) printed status) (sym same) (elim run [
            | inl ends ↦ inl ends
            | inr goes ↦
                let within = goes.3 in
                let next : 16777217 - (before + length line) ≡ suc m - length line = omega (arith, m_is, early, within.early) in
                inr (
                  goes.0,
                  goes.1,
                  goes.2,
                  within,
                  goes.4,
                  subst (λ (k : ℕ). IsRun goes.0 (number + 1) (before + length line) (lines_of (take k rest)) goes.2 status) next
                      (later_cut goes.0 (before + length line) goes.2 status within.early goes.5),
                  goes.6,
                )
          ])
      | inl many ↦
          let long : length (take (suc m) line) ≡ suc m = length-take-le (suc m) line (omega (arith, many)) in
          elim run [
            | inl ends ↦ inl (inl (λ within. absurd (let e = within.early in omega (arith, e, long, m_is, early))), ends.1, ends.2)
            | inr goes ↦ absurd (let e = goes.3.early in omega (arith, e, many, m_is, early))
          ]
    ]

pub script_is_bounded : (octets printed : List ℕ) (status : ℕ) → IsScript octets printed status → IsScript (read_part octets) printed status
unfolding read_part
script_is_bounded octets printed status = cut_run (length octets) octets (omega arith) None 0 0 printed status (omega arith)

pub prints_bounded : (a old new : Option (List ℕ)) (status : ℕ) → IfSome a (λ octets. PrintsScript octets old new status) → IfSome a (λ octets. PrintsScript (read_part octets) old new status)
prints_bounded None old new status p = tt
prints_bounded (Some octets) old new status p = (p.0, script_is_bounded octets p.0 status p.1, p.2)
