-- The lines of an input, and the reading of the first.
use Rattle.std.proofs.Common.{◌≡◌, ◌≢◌, ℕ, zero, suc, ◌+◌, ◌-◌, ◌<◌, ◌≤◌, min, Bool, true, false, cond, eqb, List, [], ◌∷◌, ◌++◌, All, None, Some, IfSome, length, take, drop, get_or, refl, sym, ap, subst, ◌∙◌, arith, inl, inr, take_all, length-take, length-take-le, eq-eqb, ne_eqb, ltb-true, true≢false}
use Rattle.std.specs.Prelude.{Option, ◌⊎◌, ◌&&◌, ◌==◌, if◌then◌else◌, nat_lt, slice_index}
use Rattle.std.proofs.Math.Seq.{drop-append_seam}
use Rattle.std.proofs.lemmas.List.Elements.{All-nil, All-cons}
use Rattle.std.proofs.lemmas.Bool.{cases_lt}
use Rattle.std.proofs.BufReadLemmas.{take_through-nil}
use Rattle.std.specs.Io.BufRead.{take_through, drop_through, ends_with_byte, strip_last}
use Rattle.std.specs.Io.KnownBytes.{IsAtEnd}
use Rattle.kdcd.specs.Script.{lines_of, with_front, line_text, IsWithinLimits}
use Rattle.kdcd.specs.Input.{TakesLine, IsBeyond}

-- the first line goes up to the first line feed
pub first_line : (o : ℕ) (os : List ℕ) → lines_of (o ∷ os) ≡ take_through 10 (o ∷ os) ∷ lines_of (drop_through 10 (o ∷ os))
first_line o [] = at (eqb o 10)
  where
    at : (b : Bool) → cond b ((o ∷ []) ∷ []) ((o ∷ []) ∷ []) ≡ cond b (o ∷ []) (o ∷ []) ∷ lines_of (cond b [] [])
    at true = refl
    at false = refl
first_line o (p ∷ ps) = step (eqb o 10) (first_line p ps)
  where
    step : (b : Bool) → lines_of (p ∷ ps) ≡ take_through 10 (p ∷ ps) ∷ lines_of (drop_through 10 (p ∷ ps))
        → cond b ((o ∷ []) ∷ lines_of (p ∷ ps)) (with_front o (lines_of (p ∷ ps)))
        ≡ cond b (o ∷ []) (o ∷ take_through 10 (p ∷ ps)) ∷ lines_of (cond b (p ∷ ps) (drop_through 10 (p ∷ ps)))
    step true e = refl
    step false e = ap (with_front o) e

-- the bytes are those of the first line and the rest
pub through_whole : (xs : List ℕ) → xs ≡ take_through 10 xs ++ drop_through 10 xs
through_whole [] = refl
through_whole (x ∷ xs) = step (eqb x 10) (through_whole xs)
  where
    step : (b : Bool) → xs ≡ take_through 10 xs ++ drop_through 10 xs → x ∷ xs ≡ cond b (x ∷ []) (x ∷ take_through 10 xs) ++ cond b xs (drop_through 10 xs)
    step true e = refl
    step false e = ap (λ l. x ∷ l) e

pub drop_first : (xs : List ℕ) → drop (length (take_through 10 xs)) xs ≡ drop_through 10 xs
drop_first xs = ap (drop (length (take_through 10 xs))) (through_whole xs) ∙ drop-append_seam (take_through 10 xs) (drop_through 10 xs)

-- a proper prefix of a line has no line feed
pub front_of_line : (k : ℕ) (xs : List ℕ) → k < length (take_through 10 xs) → All (λ o. o ≢ 10) (take k (take_through 10 xs))
front_of_line zero xs short = All-nil (λ o. o ≢ 10)
front_of_line (suc k) [] short = absurd (omega arith)
front_of_line (suc k) (x ∷ xs) short = step (eqb x 10) refl (λ few. front_of_line k xs few) short
  where
    step : (b : Bool) → eqb x 10 ≡ b → (k < length (take_through 10 xs) → All (λ o. o ≢ 10) (take k (take_through 10 xs)))
        → suc k < length (cond b (x ∷ []) (x ∷ take_through 10 xs))
        → All (λ o. o ≢ 10) (take (suc k) (cond b (x ∷ []) (x ∷ take_through 10 xs)))
    step true is later few = absurd (omega arith)
    step false is later few =
        All-cons (λ o. o ≢ 10) x (take k (take_through 10 xs)) (λ e. true≢false (sym (eq-eqb x 10 e) ∙ is)) (later (omega arith))

-- bytes without a line feed don't end in one
pub strip_none : (xs : List ℕ) → All (λ o. o ≢ 10) xs → strip_last 10 xs ≡ xs
strip_none xs none = ap (λ (b : Bool). if b then take (length xs - 1) xs else xs) (at (nat_lt 0 (length xs)) refl)
  where
    at : (b : Bool) → nat_lt 0 (length xs) ≡ b → ends_with_byte 10 xs ≡ false
    at true is = ap (λ (b : Bool). b && (slice_index xs (length xs - 1) == 10)) is
        ∙ ne_eqb (get_or xs (length xs - 1) 0) 10 (none (length xs - 1) 0 (omega (arith, ltb-true 0 (length xs) is)))
    at false is = ap (λ (b : Bool). b && (slice_index xs (length xs - 1) == 10)) is

-- at most one byte is removed
pub strip_length : (xs : List ℕ) → (length (line_text xs) ≤ length xs) × (length xs ≤ length (line_text xs) + 1)
strip_length xs = at (ends_with_byte 10 xs)
  where
    at : (b : Bool) → (length (cond b (take (length xs - 1) xs) xs) ≤ length xs) × (length xs ≤ length (cond b (take (length xs - 1) xs) xs) + 1)
    at true = (omega (arith, length-take (length xs - 1) xs), omega (arith, length-take (length xs - 1) xs))
    at false = (omega arith, omega arith)

module _ (before most : ℕ) (early : before ≤ 16777216) (most_is : most ≡ min (16777216 + 1 - before) (262144 + 1)) (xs : List ℕ) where
  abbrev line : List ℕ
  line = take_through 10 xs

  abbrev front : List ℕ
  front = take most line

  -- what was read is the whole line, if it is within the limits
  pub whole_line : before + length front ≤ 16777216 → length (line_text front) ≤ 262144 → front ≡ line
  whole_line within short = elim (cases_lt most (length line)) [
    | inr few ↦ take_all most line few
    | inl many ↦
        let long : length front ≡ most = length-take-le most line (omega arith) in
        let kept : length (line_text front) ≡ length front = ap length (strip_none front (front_of_line most xs many)) in
        absurd (omega arith)
  ]

  -- the line exceeds the limits if what was read does
  pub beyond : (16777216 < before + length front) ⊎ (262144 < length (line_text front)) → ¬ IsWithinLimits before line
  beyond (inl late) within = let less : length front ≤ length line = omega (arith, length-take most line) in absurd (omega (arith, within.early))
  beyond (inr long) within = elim (cases_lt most (length line)) [
    | inr few ↦ absurd (omega (arith, within.short, ap (λ l. length (line_text l)) (take_all most line few)))
    | inl many ↦
        let taken : length front ≡ most = length-take-le most line (omega arith) in
        let ends = strip_length line in
        let starts = strip_length front in
        absurd (omega (arith, within.short, ends.1, starts.0))
  ]

-- what a call of `next_line` reads, given that `take_line` read the n bytes `front`, and `text` is left of them
module _ (a c : Option (List ℕ)) (before most n : ℕ) (front text : List ℕ) (early : before ≤ 16777216)
    (most_is : most ≡ min (16777216 + 1 - before) (262144 + 1))
    (took : IfSome a (λ xs. front ≡ take most (take_through 10 xs))) (left : IfSome a (λ xs. c ≡ Some (drop n xs)))
    (count : n ≡ length front) (stripped : text ≡ line_text front) where
  pub line_is_taken : 0 < n → before + n ≤ 16777216 → length text ≤ 262144 → TakesLine a c before (before + n) text
  line_is_taken some within short = at a took left
    where
      at : (a : Option (List ℕ)) → IfSome a (λ xs. front ≡ take most (take_through 10 xs)) → IfSome a (λ xs. c ≡ Some (drop n xs))
          → TakesLine a c before (before + n) text
      at None t l = tt
      at (Some []) t l = absurd (omega (arith, ap length t, length-take most (take_through 10 [])))
      at (Some (x ∷ xs)) t l =
          let octets = x ∷ xs in
          let is : front ≡ take_through 10 octets =
          t ∙ whole_line before most early most_is octets (subst (λ (k : List ℕ). before + length k ≤ 16777216) t (omega arith))
          (subst (λ (k : List ℕ). length (line_text k) ≤ 262144) t (subst (λ (k : List ℕ). length k ≤ 262144) stripped short)) in
          let same : n ≡ length (take_through 10 octets) = count ∙ ap length is in
          let rest : c ≡ Some (drop_through 10 octets) = l ∙ ap Some (ap (λ k. drop k octets) same ∙ drop_first octets) in
          subst (λ (o : Option (List ℕ)). TakesLine (Some octets) o before (before + n) text) (sym rest) (
            take_through 10 octets,
            first_line x xs,
            record { short = subst (λ (k : List ℕ). length k ≤ 262144) (stripped ∙ ap line_text is) short; early = omega (arith, same) },
            stripped ∙ ap line_text is,
            ap (λ k. before + k) same,
          )

  pub line_is_beyond : 0 < n → (16777216 < before + n) ⊎ (262144 < length text) → IsBeyond a before
  line_is_beyond some over = at a took
    where
      at : (a : Option (List ℕ)) → IfSome a (λ xs. front ≡ take most (take_through 10 xs)) → IsBeyond a before
      at None t = tt
      at (Some []) t = absurd (omega (arith, ap length t, length-take most (take_through 10 [])))
      at (Some (x ∷ xs)) t =
          let octets = x ∷ xs in (
            take_through 10 octets,
            lines_of (drop_through 10 octets),
            first_line x xs,
            beyond before most early most_is octets (elim over [
              | inl late ↦ inl (omega (arith, count ∙ ap length t))
              | inr long ↦ inr (subst (λ (k : List ℕ). 262144 < length (line_text k)) t (subst (λ (k : List ℕ). 262144 < length k) stripped long))
            ]),
          )

  pub input_is_ended : n ≡ 0 → IsAtEnd a
  input_is_ended none = at a took
    where
      at : (a : Option (List ℕ)) → IfSome a (λ xs. front ≡ take most (take_through 10 xs)) → IsAtEnd a
      at None t = tt
      at (Some xs) t = take_through-nil 10 xs (omega (arith, ap length t, length-take most (take_through 10 xs)))
