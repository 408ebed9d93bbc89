-- The encryption types of a request for which there is a key, one by one.
use Rattle.std.proofs.Common.{◌≡◌, ℕ, ℤ, pos, ◌+◌, ◌≤◌, Bool, true, false, not, cond, ◌||◌, ◌&&◌, subst, List, [], ◌∷◌, ◌++◌, length, Some, is_some, refl, sym, ap, ◌∙◌, append_assoc, arith, All}
use Rattle.std.specs.List.{filter}
use Rattle.std.specs.Ordering.{int_eq}
use Rattle.std.proofs.lemmas.List.{append-nil}
use Rattle.std.proofs.lemmas.List.Folds.{list_any-append}
use Rattle.std.proofs.lemmas.List.Elements.{All-filter, All-cons, All-nil, All-head, All-tail}
use Rattle.std.proofs.lemmas.Bool.Decides.{Decides-int_eq}
use Rattle.enctypes.specs.declared.etype.Etype.{Etype}
use Rattle.enctypes.specs.declared.etype.Etype.TheVariants.{Aes128CtsHmacSha1_96, Aes256CtsHmacSha1_96, Aes128CtsHmacSha256_128, Aes256CtsHmacSha384_192}
use Rattle.enctypes.specs.declared.key.Key.{Key}
use Rattle.enctypes.specs.Etype.{number}
use Rattle.preauth.specs.Keys.{key_numbered, has_key, is_among, is_new, each_once, types_of}

-- the numbers that were not found yet
abbrev pub new_ones : List ℤ → List ℤ → List ℤ
new_ones found ns = filter (λ n. not (is_among found n)) ns

-- those found so far, with those of the later numbers
abbrev pub with_those_of : List Key → List ℤ → List ℤ → List ℤ
with_those_of keys found later = found ++ new_ones found (types_of keys later)

-- ---- one more number

without_key : (keys : List Key) (n : ℤ) (ns : List ℤ) → has_key keys n ≡ false → types_of keys (n ∷ ns) ≡ types_of keys ns
without_key keys n ns none = ap (λ b. each_once (cond b (n ∷ filter (has_key keys) ns) (filter (has_key keys) ns))) none

with_key : (keys : List Key) (n : ℤ) (ns : List ℤ) → has_key keys n ≡ true → types_of keys (n ∷ ns) ≡ n ∷ filter (λ m. not (int_eq n m)) (types_of keys ns)
with_key keys n ns some = ap (λ b. each_once (cond b (n ∷ filter (has_key keys) ns) (filter (has_key keys) ns))) some

-- two filters in a row
filter_both : (p q r : ℤ → Bool) (xs : List ℤ) → ((x : ℤ) → cond (q x) (p x) false ≡ r x) → filter p (filter q xs) ≡ filter r xs
filter_both p q r [] same = refl
filter_both p q r (x ∷ xs) same = at (filter_both p q r xs same) (q x) refl
  where
    at : filter p (filter q xs) ≡ filter r xs → (b : Bool) → q x ≡ b → filter p (cond b (x ∷ filter q xs) (filter q xs)) ≡ cond (r x) (x ∷ filter r xs) (filter r xs)
    at later true e =
        let one : p x ≡ r x = ap (λ (b : Bool). cond b (p x) false) (sym e) ∙ same x in
        ap (λ (ys : List ℤ). cond (p x) (x ∷ ys) ys) later ∙ ap (λ (b : Bool). cond b (x ∷ filter r xs) (filter r xs)) one
    at later false e =
        let none : false ≡ r x = ap (λ (b : Bool). cond b (p x) false) (sym e) ∙ same x in
        later ∙ ap (λ (b : Bool). cond b (x ∷ filter r xs) (filter r xs)) none

-- there is no key of it
unknown : (keys : List Key) (found : List ℤ) (n : ℤ) (ns : List ℤ) → has_key keys n ≡ false → with_those_of keys found (n ∷ ns) ≡ with_those_of keys found ns
unknown keys found n ns none = ap (λ (ts : List ℤ). found ++ new_ones found ts) (without_key keys n ns none)

-- it was found before
repeated : (keys : List Key) (found : List ℤ) (n : ℤ) (ns : List ℤ) → has_key keys n ≡ true → is_among found n ≡ true → with_those_of keys found (n ∷ ns) ≡ with_those_of keys found ns
repeated keys found n ns some old =
    ap (λ (ts : List ℤ). found ++ new_ones found ts) (with_key keys n ns some)
    ∙ ap (λ (b : Bool). found ++ cond (not b) (n ∷ new_ones found others) (new_ones found others)) old
    ∙ ap (λ (ts : List ℤ). found ++ ts) (filter_both (λ m. not (is_among found m)) (λ m. not (int_eq n m)) (λ m. not (is_among found m)) (types_of keys ns) same)
  where
    others : List ℤ
    others = filter (λ m. not (int_eq n m)) (types_of keys ns)

    same : (m : ℤ) → cond (not (int_eq n m)) (not (is_among found m)) false ≡ not (is_among found m)
    same m = at (int_eq n m) refl
      where
        at : (b : Bool) → int_eq n m ≡ b → cond (not b) (not (is_among found m)) false ≡ not (is_among found m)
        at true e = ap (λ (b : Bool). not b) (sym old ∙ ap (λ (k : ℤ). is_among found k) ((Decides-int_eq n m).0 e))
        at false e = refl

-- it is found for the first time
added : (keys : List Key) (found : List ℤ) (n : ℤ) (ns : List ℤ) → has_key keys n ≡ true → is_among found n ≡ false → with_those_of keys found (n ∷ ns) ≡ with_those_of keys (found ++ n ∷ []) ns
added keys found n ns some fresh =
    ap (λ (ts : List ℤ). found ++ new_ones found ts) (with_key keys n ns some)
    ∙ ap (λ (b : Bool). found ++ cond (not b) (n ∷ new_ones found others) (new_ones found others)) fresh
    ∙ ap (λ (ts : List ℤ). found ++ n ∷ ts) (filter_both (λ m. not (is_among found m)) (λ m. not (int_eq n m)) (λ m. not (is_among (found ++ n ∷ []) m)) (types_of keys ns) same)
    ∙ sym (append_assoc found (n ∷ []) (new_ones (found ++ n ∷ []) (types_of keys ns)))
  where
    others : List ℤ
    others = filter (λ m. not (int_eq n m)) (types_of keys ns)

    neither : (a b : Bool) → cond (not a) (not b) false ≡ not (b || (a || false))
    neither true true = refl
    neither true false = refl
    neither false true = refl
    neither false false = refl

    same : (m : ℤ) → cond (not (int_eq n m)) (not (is_among found m)) false ≡ not (is_among (found ++ n ∷ []) m)
    same m = neither (int_eq n m) (is_among found m) ∙ ap (λ (b : Bool). not b) (sym (list_any-append (λ k. int_eq k m) found (n ∷ [])))

-- ---- a loop that gathers the numbers

pub begins : (keys : List Key) (found numbers all : List ℤ) → found ≡ [] → numbers ≡ all → with_those_of keys found numbers ≡ types_of keys all
begins keys found numbers ns none same =
    ap (λ (f : List ℤ). with_those_of keys f numbers) none ∙ every (types_of keys numbers) ∙ ap (λ (xs : List ℤ). types_of keys xs) same
  where
    every : (xs : List ℤ) → filter (λ n. not (is_among [] n)) xs ≡ xs
    every [] = refl
    every (x ∷ xs) = ap (λ (ys : List ℤ). x ∷ ys) (every xs)

pub takes : (keys : List Key) (found now numbers : List ℤ) (n : ℤ) (later all : List ℤ) → numbers ≡ n ∷ later → is_new keys found n ≡ true → now ≡ found ++ n ∷ []
    → with_those_of keys found numbers ≡ all → with_those_of keys now later ≡ all
takes keys found now numbers n later all first new grown so_far = at (has_key keys n) (is_among found n) refl refl new
  where
    at : (b d : Bool) → has_key keys n ≡ b → is_among found n ≡ d → (b && not d) ≡ true → with_those_of keys now later ≡ all
    at true false some fresh e =
        ap (λ (f : List ℤ). with_those_of keys f later) grown ∙ sym (added keys found n later some fresh)
        ∙ sym (ap (λ (xs : List ℤ). with_those_of keys found xs) first) ∙ so_far
    at true true some old e = cc
    at false d none any e = cc

pub passes_over : (keys : List Key) (found numbers : List ℤ) (n : ℤ) (later all : List ℤ) → numbers ≡ n ∷ later → is_new keys found n ≡ false
    → with_those_of keys found numbers ≡ all → with_those_of keys found later ≡ all
passes_over keys found numbers n later all first not_new so_far = at (has_key keys n) (is_among found n) refl refl not_new
  where
    whole : with_those_of keys found (n ∷ later) ≡ all
    whole = sym (ap (λ (xs : List ℤ). with_those_of keys found xs) first) ∙ so_far

    at : (b d : Bool) → has_key keys n ≡ b → is_among found n ≡ d → (b && not d) ≡ false → with_those_of keys found later ≡ all
    at true true some old e = sym (repeated keys found n later some old) ∙ whole
    at true false some fresh e = cc
    at false d none any e = sym (unknown keys found n later none) ∙ whole

pub ends : (keys : List Key) (found numbers all : List ℤ) → numbers ≡ [] → with_those_of keys found numbers ≡ all → found ≡ all
ends keys found numbers all none so_far = sym (append-nil found) ∙ sym (ap (λ (xs : List ℤ). with_those_of keys found xs) none) ∙ so_far

-- ---- at most as many as there are encryption types

-- the number of an encryption type
abbrev IsNumber : ℤ → Type 0
IsNumber n = (e : Etype) × (number e ≡ n)

known : (keys : List Key) (n : ℤ) → has_key keys n ≡ true → IsNumber n
known [] n some = cc
known (k ∷ ks) n some = at (known ks n) (int_eq (number k.etype) n) refl some
  where
    at : (has_key ks n ≡ true → IsNumber n) → (b : Bool) → int_eq (number k.etype) n ≡ b → is_some (cond b (Some k) (key_numbered ks n)) ≡ true → IsNumber n
    at later true e some = (k.etype, (Decides-int_eq (number k.etype) n).0 e)
    at later false e some = later some

all_known : (keys : List Key) (ns : List ℤ) → All IsNumber (filter (has_key keys) ns)
all_known keys [] = All-nil IsNumber
all_known keys (n ∷ ns) = at (all_known keys ns) (has_key keys n) refl
  where
    at : All IsNumber (filter (has_key keys) ns) → (b : Bool) → has_key keys n ≡ b → All IsNumber (cond b (n ∷ filter (has_key keys) ns) (filter (has_key keys) ns))
    at later true e = All-cons IsNumber n _ (known keys n e) later
    at later false e = later

each_known : (ns : List ℤ) → All IsNumber ns → All IsNumber (each_once ns)
each_known [] all = All-nil IsNumber
each_known (n ∷ ns) all =
    All-cons IsNumber n _ (All-head IsNumber n ns all) (All-filter (λ m. not (int_eq n m)) IsNumber (each_once ns) (each_known ns (All-tail IsNumber n ns all)))

-- how often a number occurs in a list
abbrev times : ℤ → List ℤ → ℕ
times n [] = 0
times n (m ∷ ms) = cond (int_eq n m) 1 0 + times n ms

times_kept : (n : ℤ) (test : ℤ → Bool) (ms : List ℤ) → times n (filter test ms) ≤ times n ms
times_kept n test [] = omega arith
times_kept n test (m ∷ ms) = at (times_kept n test ms) (test m)
  where
    at : times n (filter test ms) ≤ times n ms → (b : Bool) → times n (cond b (m ∷ filter test ms) (filter test ms)) ≤ cond (int_eq n m) 1 0 + times n ms
    at later true = omega (arith, later)
    at later false = omega (arith, later)

times_dropped : (n : ℤ) (ms : List ℤ) → times n (filter (λ m. not (int_eq n m)) ms) ≡ 0
times_dropped n [] = refl
times_dropped n (m ∷ ms) = at (times_dropped n ms) (int_eq n m) refl
  where
    at : times n (filter (λ k. not (int_eq n k)) ms) ≡ 0 → (b : Bool) → int_eq n m ≡ b → times n (cond (not b) (m ∷ filter (λ k. not (int_eq n k)) ms) (filter (λ k. not (int_eq n k)) ms)) ≡ 0
    at later true e = later
    at later false e = rw e (omega (arith, later))

once_each : (n : ℤ) (ms : List ℤ) → times n (each_once ms) ≤ 1
once_each n [] = omega arith
once_each n (m ∷ ms) = at (once_each n ms) (int_eq n m) refl
  where
    others : List ℤ
    others = filter (λ k. not (int_eq m k)) (each_once ms)

    at : times n (each_once ms) ≤ 1 → (b : Bool) → int_eq n m ≡ b → cond b 1 0 + times n others ≤ 1
    at later true e =
        let none : times n (filter (λ k. not (int_eq m k)) (each_once ms)) ≡ 0 = subst (λ (k : ℤ). times n (filter (λ j. not (int_eq k j)) (each_once ms)) ≡ 0) ((Decides-int_eq n m).0 e) (times_dropped n (each_once ms)) in
        omega (arith, none)
    at later false e = omega (arith, times_kept n (λ k. not (int_eq m k)) (each_once ms), later)

abbrev IsCounted : List ℤ → Type 0
IsCounted ns = length ns ≤ times (pos 17) ns + times (pos 18) ns + times (pos 19) ns + times (pos 20) ns

by_number : (ns : List ℤ) → All IsNumber ns → IsCounted ns
by_number [] all = omega arith
by_number (n ∷ ns) all =
    let first = All-head IsNumber n ns all in
    subst (λ (m : ℤ). IsCounted (m ∷ ns)) first.1 (one (by_number ns (All-tail IsNumber n ns all)) first.0)
  where
    one : IsCounted ns → (e : Etype) → IsCounted (number e ∷ ns)
    one later Aes128CtsHmacSha1_96 = omega (arith, later)
    one later Aes256CtsHmacSha1_96 = omega (arith, later)
    one later Aes128CtsHmacSha256_128 = omega (arith, later)
    one later Aes256CtsHmacSha384_192 = omega (arith, later)

pub at_most_four : (keys : List Key) (found ns : List ℤ) → found ≡ types_of keys ns → length found ≤ 4
at_most_four keys made ns same =
    let found : List ℤ = filter (has_key keys) ns in
    subst (λ (xs : List ℤ). length xs ≤ 4) (sym same) (omega (arith, by_number (each_once found) (each_known found (all_known keys ns)), once_each (pos 17) found, once_each (pos 18) found, once_each (pos 19) found, once_each (pos 20) found))
