-- The iterates of PBKDF2 and their sum.
use Rattle.std.proofs.Common.{◌≡◌, ℕ, zero, suc, ◌+◌, ◌<◌, List, [], ◌∷◌, length, refl, arith, get_or, bit_xor, add-one}
use Rattle.prf_kdf.specs.Pbkdf2.{octets_xor, iterate, iterates_xor}

pub iterate_none : (prf : List ℕ → List ℕ) (u : List ℕ) → iterate prf u 0 ≡ u
unfolding iterate
iterate_none prf u = refl

pub iterate_more : (prf : List ℕ → List ℕ) (u : List ℕ) (n : ℕ) → iterate prf u (n + 1) ≡ prf (iterate prf u n)
unfolding iterate
iterate_more prf u n = rw add-one refl

pub iterates_xor_none : (prf : List ℕ → List ℕ) (u : List ℕ) → iterates_xor prf u 0 ≡ u
unfolding iterates_xor
iterates_xor_none prf u = refl

pub iterates_xor_more : (prf : List ℕ → List ℕ) (u : List ℕ) (n : ℕ)
    → iterates_xor prf u (n + 1) ≡ octets_xor (iterates_xor prf u n) (iterate prf u (n + 1))
unfolding iterates_xor
iterates_xor_more prf u n = rw add-one refl

-- a list whose elements are those of the sum
pub octets_xor_is : (a b c : List ℕ) → length a ≡ length b → length c ≡ length a
    → ((k : ℕ) → k < length a → get_or c k 0 ≡ bit_xor (get_or a k 0) (get_or b k 0)) → c ≡ octets_xor a b
octets_xor_is [] b [] same len each = refl
octets_xor_is [] b (z ∷ zs) same len each = absurd (omega arith)
octets_xor_is (x ∷ xs) [] c same len each = absurd (omega arith)
octets_xor_is (x ∷ xs) (y ∷ ys) [] same len each = absurd (omega arith)
octets_xor_is (x ∷ xs) (y ∷ ys) (z ∷ zs) same len each =
    let head : z ≡ bit_xor x y = each 0 (omega arith) in
    let tail : zs ≡ octets_xor xs ys =
    octets_xor_is xs ys zs (omega arith) (omega arith) (λ k below. each (suc k) (omega arith)) in
    rw (head, tail) refl

pub length-octets_xor : (a b : List ℕ) → length a ≡ length b → length (octets_xor a b) ≡ length a
length-octets_xor [] b same = refl
length-octets_xor (x ∷ xs) [] same = absurd (omega arith)
length-octets_xor (x ∷ xs) (y ∷ ys) same =
    let tail : length (octets_xor xs ys) ≡ length xs = length-octets_xor xs ys (omega arith) in
    omega arith

-- for a pseudorandom function whose values all have the same length
pub length-iterate : (prf : List ℕ → List ℕ) (size : ℕ) → ((m : List ℕ) → length (prf m) ≡ size) → (u : List ℕ) (n : ℕ)
    → length u ≡ size → length (iterate prf u n) ≡ size
unfolding iterate
length-iterate prf size fixed u zero len = len
length-iterate prf size fixed u (suc n) len = fixed (iterate prf u n)

pub length-iterates_xor : (prf : List ℕ → List ℕ) (size : ℕ) → ((m : List ℕ) → length (prf m) ≡ size)
    → (u : List ℕ) (n : ℕ) → length u ≡ size → length (iterates_xor prf u n) ≡ size
unfolding iterates_xor
length-iterates_xor prf size fixed u zero len = len
length-iterates_xor prf size fixed u (suc n) len =
    let before : length (iterates_xor prf u n) ≡ size = length-iterates_xor prf size fixed u n len in
    let next : length (iterate prf u (suc n)) ≡ size = length-iterate prf size fixed u (suc n) len in
    omega (arith, length-octets_xor (iterates_xor prf u n) (iterate prf u (suc n)) (omega arith))
