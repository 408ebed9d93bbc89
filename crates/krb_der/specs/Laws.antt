-- A value that is read is at the front, and a value at the front is read.
use Rattle.std.proofs.Common.{◌≡◌, ℕ, zero, suc, ◌^◌, ◌<◌, ◌≤◌, Bool, true, false, cond, ltb, eqb, List, [], ◌∷◌, ◌++◌}
use Rattle.std.proofs.Common.{length, get_or, take, drop, Result, Ok, Err, refl, sym, ap, subst, ◌∙◌, append_assoc}
use Rattle.std.proofs.Common.{arith, inl, inr}
use Rattle.std.specs.Int.{w32, from_be_bytes, to_be_bytes}
use Rattle.std.proofs.lemmas.Bool.{cases_lt, ltb-false, ltb-true, eqb-true, eqb-false, le-ltb, lt-ltb, ne_eqb, eq-eqb}
use Rattle.std.proofs.lemmas.List.{take_at, drop_at, take-append-drop, length-append, length-take, length-drop}
use Rattle.std.proofs.lemmas.Nat.{be_bytes_4}
use Rattle.krb_der.specs.declared.fault.DerFault.{DerFault}
use Rattle.krb_der.specs.declared.fault.DerFault.TheVariants.{Truncated, BadLength}
use Rattle.std.specs.Prelude.{IfOk, IsOkAnd}
use Rattle.krb_der.specs.Spelling.{length_octets, tlv, Leaf, Stands, IsBytes}
use Rattle.krb_der.specs.Reading.{length_1, length_2, length_3, length_4, length_at, tlv_at, leaf_at, Gives}
use Rattle.krb_der.specs.StepLaws.{IsBytes-rest, IsBytes-back, IsBytes-front, bind_ok, guard_ok, chosen, ok_is}

-- these bytes were taken from the front
abbrev Took : List ℕ → ℕ → List ℕ → Type 0
Took bytes n rest = (bytes ≡ length_octets n ++ rest) × (n < 2 ^ 32)

octets_0 : (n : ℕ) → n < 2 ^ 7 → length_octets n ≡ n ∷ []
unfolding length_octets
octets_0 n h = rw (lt-ltb n (2 ^ 7) h) refl

octets_1 : (n : ℕ) → 2 ^ 7 ≤ n → n < 2 ^ 8 → length_octets n ≡ 129 ∷ n ∷ []
unfolding length_octets
octets_1 n l h = rw (le-ltb n (2 ^ 7) l, lt-ltb n (2 ^ 8) h) refl

octets_2 : (n : ℕ) → 2 ^ 8 ≤ n → n < 2 ^ 16 → length_octets n ≡ 130 ∷ drop 2 (to_be_bytes w32 n)
unfolding length_octets
octets_2 n l h = rw (le-ltb n (2 ^ 7) (omega arith), le-ltb n (2 ^ 8) l, lt-ltb n (2 ^ 16) h) refl

octets_3 : (n : ℕ) → 2 ^ 16 ≤ n → n < 2 ^ 24 → length_octets n ≡ 131 ∷ drop 1 (to_be_bytes w32 n)
unfolding length_octets
octets_3 n l h =
    rw (le-ltb n (2 ^ 7) (omega arith), le-ltb n (2 ^ 8) (omega arith), le-ltb n (2 ^ 16) l, lt-ltb n (2 ^ 24) h) refl

octets_4 : (n : ℕ) → 2 ^ 24 ≤ n → length_octets n ≡ 132 ∷ to_be_bytes w32 n
unfolding length_octets
octets_4 n l =
    rw (
      le-ltb n (2 ^ 7) (omega arith),
      le-ltb n (2 ^ 8) (omega arith),
      le-ltb n (2 ^ 16) (omega arith),
      le-ltb n (2 ^ 24) l,
    ) refl

-- four bytes are the bytes of the number that they form
four : (a b c d : ℕ) → a < 256 → b < 256 → c < 256 → d < 256
    → to_be_bytes w32 (from_be_bytes w32 (a ∷ b ∷ c ∷ d ∷ [])) ≡ a ∷ b ∷ c ∷ d ∷ []
four a b c d ha hb hc hd = be_bytes_4 (a ∷ b ∷ c ∷ d ∷ []) _ refl (fits a b c d ha hb hc hd) refl
  where
    fits : (a b c d : ℕ) → a < 256 → b < 256 → c < 256 → d < 256 → (i : ℕ) → get_or (a ∷ b ∷ c ∷ d ∷ []) i 0 < 256
    fits a b c d ha hb hc hd zero = ha
    fits a b c d ha hb hc hd (suc zero) = hb
    fits a b c d ha hb hc hd (suc (suc zero)) = hc
    fits a b c d ha hb hc hd (suc (suc (suc zero))) = hd
    fits a b c d ha hb hc hd (suc (suc (suc (suc i)))) = omega arith

takes_1 : (bytes : List ℕ) (n : ℕ) (rest : List ℕ) → IsBytes bytes → length_1 bytes ≡ Ok (n, rest)
    → Took (129 ∷ bytes) n rest
takes_1 [] n rest fits e = absurd cc
takes_1 (a ∷ bytes) n rest fits e =
    let g = guard_ok (ltb a 128) BadLength (a, bytes) (n, rest) e in
    let low : 128 ≤ a = ltb-false _ _ g.0 in
    let high : a < 256 = fits 0 in
    subst (λ (p : ℕ × List ℕ). Took (129 ∷ a ∷ bytes) p.0 p.1) g.1 (rw (octets_1 a low high) refl, omega arith)

takes_2 : (bytes : List ℕ) (n : ℕ) (rest : List ℕ) → IsBytes bytes → length_2 bytes ≡ Ok (n, rest)
    → Took (130 ∷ bytes) n rest
takes_2 [] n rest fits e = absurd cc
takes_2 (a ∷ []) n rest fits e = absurd cc
takes_2 (a ∷ b ∷ bytes) n rest fits e =
    let m : ℕ = from_be_bytes w32 (0 ∷ 0 ∷ a ∷ b ∷ []) in
    let g = guard_ok (eqb a 0) BadLength (m, bytes) (n, rest) e in
    let a0 : a ≡ 0 → ⊥ = eqb-false _ _ g.0 in
    let ha : a < 256 = fits 0 in
    let hb : b < 256 = fits 1 in
    let lo : 2 ^ 8 ≤ m = omega arith in
    let hi : m < 2 ^ 16 = omega arith in
    let back : to_be_bytes w32 m ≡ 0 ∷ 0 ∷ a ∷ b ∷ [] = four 0 0 a b (omega arith) (omega arith) ha hb in
    subst (λ (p : ℕ × List ℕ). Took (130 ∷ a ∷ b ∷ bytes) p.0 p.1) g.1
    (rw (octets_2 m lo hi) (sym (ap (λ (l : List ℕ). 130 ∷ (drop 2 l ++ bytes)) back)), omega arith)

takes_3 : (bytes : List ℕ) (n : ℕ) (rest : List ℕ) → IsBytes bytes → length_3 bytes ≡ Ok (n, rest)
    → Took (131 ∷ bytes) n rest
takes_3 [] n rest fits e = absurd cc
takes_3 (a ∷ []) n rest fits e = absurd cc
takes_3 (a ∷ b ∷ []) n rest fits e = absurd cc
takes_3 (a ∷ b ∷ c ∷ bytes) n rest fits e =
    let m : ℕ = from_be_bytes w32 (0 ∷ a ∷ b ∷ c ∷ []) in
    let g = guard_ok (eqb a 0) BadLength (m, bytes) (n, rest) e in
    let a0 : a ≡ 0 → ⊥ = eqb-false _ _ g.0 in
    let ha : a < 256 = fits 0 in
    let hb : b < 256 = fits 1 in
    let hc : c < 256 = fits 2 in
    let lo : 2 ^ 16 ≤ m = omega arith in
    let hi : m < 2 ^ 24 = omega arith in
    let back : to_be_bytes w32 m ≡ 0 ∷ a ∷ b ∷ c ∷ [] = four 0 a b c (omega arith) ha hb hc in
    subst (λ (p : ℕ × List ℕ). Took (131 ∷ a ∷ b ∷ c ∷ bytes) p.0 p.1) g.1
    (rw (octets_3 m lo hi) (sym (ap (λ (l : List ℕ). 131 ∷ (drop 1 l ++ bytes)) back)), omega arith)

takes_4 : (bytes : List ℕ) (n : ℕ) (rest : List ℕ) → IsBytes bytes → length_4 bytes ≡ Ok (n, rest)
    → Took (132 ∷ bytes) n rest
takes_4 [] n rest fits e = absurd cc
takes_4 (a ∷ []) n rest fits e = absurd cc
takes_4 (a ∷ b ∷ []) n rest fits e = absurd cc
takes_4 (a ∷ b ∷ c ∷ []) n rest fits e = absurd cc
takes_4 (a ∷ b ∷ c ∷ d ∷ bytes) n rest fits e =
    let m : ℕ = from_be_bytes w32 (a ∷ b ∷ c ∷ d ∷ []) in
    let g = guard_ok (eqb a 0) BadLength (m, bytes) (n, rest) e in
    let a0 : a ≡ 0 → ⊥ = eqb-false _ _ g.0 in
    let ha : a < 256 = fits 0 in
    let hb : b < 256 = fits 1 in
    let hc : c < 256 = fits 2 in
    let hd : d < 256 = fits 3 in
    let lo : 2 ^ 24 ≤ m = omega arith in
    let hi : m < 2 ^ 32 = omega arith in
    let back : to_be_bytes w32 m ≡ a ∷ b ∷ c ∷ d ∷ [] = four a b c d ha hb hc hd in
    subst (λ (p : ℕ × List ℕ). Took (132 ∷ a ∷ b ∷ c ∷ d ∷ bytes) p.0 p.1) g.1
    (rw (octets_4 m lo) (sym (ap (λ (l : List ℕ). 132 ∷ (l ++ bytes)) back)), hi)

-- the first byte is k
at_first : (k first : ℕ) (bs : List ℕ) (n : ℕ) (rest : List ℕ) → eqb first k ≡ true → Took (k ∷ bs) n rest
    → Took (first ∷ bs) n rest
at_first k first bs n rest e h = rw (eqb-true first k e) h

pub length_takes : (bytes : List ℕ) (n : ℕ) (rest : List ℕ) → IsBytes bytes → length_at bytes ≡ Ok (n, rest)
    → (bytes ≡ length_octets n ++ rest) × (n < 2 ^ 32)
unfolding length_at
length_takes [] n rest fits e = absurd cc
length_takes (first ∷ bs) n rest fits e =
    let f : IsBytes bs = IsBytes-rest first bs fits in
    elim (chosen (ltb first 128) _ _ _ e) [
      | inl p ↦ subst (λ (q : ℕ × List ℕ). Took (first ∷ bs) q.0 q.1) (ok_is (first, bs) (n, rest) p.1)
          (rw (octets_0 first (ltb-true _ _ p.0)) refl, omega (arith, ltb-true first 128 p.0))
      | inr p ↦ elim (chosen (eqb first 129) _ _ _ p.1) [
        | inl q ↦ at_first 129 first bs n rest q.0 (takes_1 bs n rest f q.1)
        | inr q ↦ elim (chosen (eqb first 130) _ _ _ q.1) [
          | inl r ↦ at_first 130 first bs n rest r.0 (takes_2 bs n rest f r.1)
          | inr r ↦ elim (chosen (eqb first 131) _ _ _ r.1) [
            | inl s ↦ at_first 131 first bs n rest s.0 (takes_3 bs n rest f s.1)
            | inr s ↦ elim (chosen (eqb first 132) _ _ _ s.1) [
              | inl t ↦ at_first 132 first bs n rest t.0 (takes_4 bs n rest f t.1)
              | inr t ↦ absurd cc
            ]
          ]
        ]
      ]
    ]

not_zero : (a m n : ℕ) (rest : List ℕ) → (a ≡ 0 → ⊥) → m ≡ n
    → cond {A = Result (ℕ × List ℕ) DerFault} (eqb a 0) (Err BadLength) (Ok (m, rest)) ≡ Ok (n, rest)
not_zero a m n rest h e = rw (ne_eqb a 0 h, e) refl

pub length_again : (n : ℕ) (rest : List ℕ) → n < 2 ^ 32 → length_at (length_octets n ++ rest) ≡ Ok (n, rest)
unfolding length_at
length_again n rest lt =
    elim (cases_lt n (2 ^ 7)) [
      | inl h ↦ rw (octets_0 n h) (rw (lt-ltb n 128 h) refl)
      | inr h7 ↦ elim (cases_lt n (2 ^ 8)) [
        | inl h ↦ rw (octets_1 n h7 h) (rw (le-ltb n 128 h7) refl)
        | inr h8 ↦ elim (cases_lt n (2 ^ 16)) [
          | inl h ↦ rw (octets_2 n h8 h) (not_zero _ _ n rest (λ z. omega (arith, z)) (omega arith))
          | inr h16 ↦ elim (cases_lt n (2 ^ 24)) [
            | inl h ↦ rw (octets_3 n h16 h) (not_zero _ _ n rest (λ z. omega (arith, z)) (omega arith))
            | inr h24 ↦ rw (octets_4 n h24) (not_zero _ _ n rest (λ z. omega (arith, z)) (omega arith))
          ]
        ]
      ]
    ]

regroup : (tag first : ℕ) (bs octets : List ℕ) (n : ℕ) (text : List ℕ) → first ≡ tag → bs ≡ octets ++ text
    → first ∷ bs ≡ (tag ∷ (octets ++ take n text)) ++ drop n text
regroup tag first bs octets n text e parts =
    rw e (ap (λ (l : List ℕ). tag ∷ l) (parts ∙ ap
    (λ (l : List ℕ). octets ++ l) (sym (take-append-drop n text)) ∙ sym
    (append_assoc octets (take n text) (drop n text))))

pub tlv_takes : (tag : ℕ) (bytes contents rest : List ℕ) → IsBytes bytes → tlv_at tag bytes ≡ Ok (contents, rest)
    → (bytes ≡ tlv tag contents ++ rest) × (length contents < 2 ^ 32)
unfolding tlv_at tlv
tlv_takes tag [] contents rest fits e = absurd cc
tlv_takes tag (first ∷ bs) contents rest fits e =
    elim (chosen (eqb first tag) _ _ _ e) [
      | inl p ↦
          let b = bind_ok (length_at bs) (λ n. cond (ltb (length n.1) n.0) (Err Truncated)
          (Ok (take n.0 n.1, drop n.0 n.1))) (contents, rest) p.1 in
          let n = b.0 in
          let t = length_takes bs n.0 n.1 (IsBytes-rest first bs fits) b.1 in
          let g = guard_ok (ltb (length n.1) n.0) Truncated (take n.0 n.1, drop n.0 n.1) (contents, rest) b.2 in
          let long : n.0 ≤ length n.1 = ltb-false _ _ g.0 in
          let len : length (take n.0 n.1) ≡ n.0 = omega (arith, length-take n.0 n.1) in
          let parts = regroup tag first bs (length_octets n.0) n.0 n.1 (eqb-true first tag p.0) t.0 in
          subst (λ (q : List ℕ × List ℕ). (first ∷ bs ≡ (tag ∷ (length_octets (length q.0) ++ q.0)) ++ q.1)
          × (length q.0 < 2 ^ 32)) g.1 (
            subst (λ (k : ℕ). first ∷ bs
                ≡ (tag ∷ (length_octets k ++ take n.0 n.1)) ++ drop n.0 n.1) (sym len) parts,
            omega (arith, t.1),
          )
      | inr p ↦ absurd cc
    ]

pub tlv_again : (tag : ℕ) (contents rest : List ℕ) → length contents < 2 ^ 32
    → tlv_at tag (tlv tag contents ++ rest) ≡ Ok (contents, rest)
unfolding tlv_at tlv
tlv_again tag contents rest lt =
    let long : ltb (length (contents ++ rest)) (length contents) ≡ false =
    le-ltb _ _ (omega (arith, length-append contents rest)) in
    rw (
      eq-eqb tag tag refl,
      append_assoc (length_octets (length contents)) contents rest,
      length_again (length contents) (contents ++ rest) lt,
      long,
      take_at contents rest (length contents) refl,
      drop_at contents rest (length contents) refl,
    ) refl

-- ---- the rest is shorter

shorter_1 : (bytes : List ℕ) (n : ℕ) (rest : List ℕ) → length_1 bytes ≡ Ok (n, rest) → length rest ≤ length bytes
shorter_1 [] n rest e = absurd cc
shorter_1 (a ∷ bytes) n rest e =
    rw (← ap (λ (p : ℕ × List ℕ). p.1) (guard_ok (ltb a 128) BadLength (a, bytes) (n, rest) e).1) (omega arith)

shorter_2 : (bytes : List ℕ) (n : ℕ) (rest : List ℕ) → length_2 bytes ≡ Ok (n, rest) → length rest ≤ length bytes
shorter_2 [] n rest e = absurd cc
shorter_2 (a ∷ []) n rest e = absurd cc
shorter_2 (a ∷ b ∷ bytes) n rest e =
    rw (← ap (λ (p : ℕ × List ℕ). p.1) (guard_ok (eqb a 0) BadLength _ (n, rest) e).1) (omega arith)

shorter_3 : (bytes : List ℕ) (n : ℕ) (rest : List ℕ) → length_3 bytes ≡ Ok (n, rest) → length rest ≤ length bytes
shorter_3 [] n rest e = absurd cc
shorter_3 (a ∷ []) n rest e = absurd cc
shorter_3 (a ∷ b ∷ []) n rest e = absurd cc
shorter_3 (a ∷ b ∷ c ∷ bytes) n rest e =
    rw (← ap (λ (p : ℕ × List ℕ). p.1) (guard_ok (eqb a 0) BadLength _ (n, rest) e).1) (omega arith)

shorter_4 : (bytes : List ℕ) (n : ℕ) (rest : List ℕ) → length_4 bytes ≡ Ok (n, rest) → length rest ≤ length bytes
shorter_4 [] n rest e = absurd cc
shorter_4 (a ∷ []) n rest e = absurd cc
shorter_4 (a ∷ b ∷ []) n rest e = absurd cc
shorter_4 (a ∷ b ∷ c ∷ []) n rest e = absurd cc
shorter_4 (a ∷ b ∷ c ∷ d ∷ bytes) n rest e =
    rw (← ap (λ (p : ℕ × List ℕ). p.1) (guard_ok (eqb a 0) BadLength _ (n, rest) e).1) (omega arith)

length_shorter : (bytes : List ℕ) (n : ℕ) (rest : List ℕ) → length_at bytes ≡ Ok (n, rest) → length rest < length bytes
unfolding length_at
length_shorter [] n rest e = absurd cc
length_shorter (first ∷ bs) n rest e =
    elim (chosen (ltb first 128) _ _ _ e) [
      | inl p ↦ rw (← ap (λ (p : ℕ × List ℕ). p.1) (ok_is (first, bs) (n, rest) p.1)) (omega arith)
      | inr p ↦ elim (chosen (eqb first 129) _ _ _ p.1) [
        | inl q ↦ omega (arith, shorter_1 bs n rest q.1)
        | inr q ↦ elim (chosen (eqb first 130) _ _ _ q.1) [
          | inl r ↦ omega (arith, shorter_2 bs n rest r.1)
          | inr r ↦ elim (chosen (eqb first 131) _ _ _ r.1) [
            | inl s ↦ omega (arith, shorter_3 bs n rest s.1)
            | inr s ↦ elim (chosen (eqb first 132) _ _ _ s.1) [
              | inl t ↦ omega (arith, shorter_4 bs n rest t.1)
              | inr t ↦ absurd cc
            ]
          ]
        ]
      ]
    ]

pub tlv_shorter : (tag : ℕ) (bytes contents rest : List ℕ) → tlv_at tag bytes ≡ Ok (contents, rest)
    → length rest < length bytes
unfolding tlv_at
tlv_shorter tag [] contents rest e = absurd cc
tlv_shorter tag (first ∷ bs) contents rest e =
    elim (chosen (eqb first tag) _ _ _ e) [
      | inl p ↦
          let b = bind_ok (length_at bs) (λ n. cond (ltb (length n.1) n.0) (Err Truncated)
          (Ok (take n.0 n.1, drop n.0 n.1))) (contents, rest) p.1 in
          let n = b.0 in
          let g = guard_ok (ltb (length n.1) n.0) Truncated (take n.0 n.1, drop n.0 n.1) (contents, rest) b.2 in
          rw (← ap (λ (p : List ℕ × List ℕ). p.1) g.1) (omega
          (arith, length-drop n.0 n.1, length_shorter bs n.0 n.1 b.1))
      | inr p ↦ absurd cc
    ]

pub tlv_some : (tag : ℕ) (contents : List ℕ) → 0 < length (tlv tag contents)
unfolding tlv
tlv_some tag contents = omega arith

-- the contents of a value are bytes if the whole is
pub contents_fit : (tag : ℕ) (bytes contents rest : List ℕ) → IsBytes bytes → bytes ≡ tlv tag contents ++ rest
    → IsBytes contents
unfolding tlv
contents_fit tag bytes contents rest fits e =
    let whole : IsBytes ((tag ∷ (length_octets (length contents) ++ contents)) ++ rest) = subst IsBytes e fits in
    IsBytes-back (tag ∷ length_octets (length contents)) contents
    (IsBytes-front (tag ∷ (length_octets (length contents) ++ contents)) rest whole)

-- ---- values of simple types

-- a reading at the front of bytes accepts exactly what the relation describes
pub record IsReading {A : Type 0} (S : A → List ℕ → Type 0) (f : List ℕ → Result (A × List ℕ) DerFault) : Type 0 where
  pub takes : (bytes : List ℕ) (x : A) (rest : List ℕ) → IsBytes bytes → f bytes ≡ Ok (x, rest)
      → (front : List ℕ) × S x front × (bytes ≡ front ++ rest)
  pub again : (x : A) (front rest : List ℕ) → S x front → f (front ++ rest) ≡ Ok (x, rest)

guard_passed : {A : Type 0} (b : Bool) (d : DerFault) (x y : A) → cond b (Ok x) (Err d) ≡ Ok y → (b ≡ true) × (x ≡ y)
guard_passed true d x y e = (refl, cc)
guard_passed false d x y e = absurd cc

pub leaf_ok : {A : Type 0} (tag : ℕ) (test : List ℕ → Bool) (value : List ℕ → A) (fault : DerFault)
    → IsReading (Leaf tag test value) (leaf_at tag test value fault)
leaf_ok {A} tag test value fault = record {
  takes = λ bytes x rest fits e.
      let b = bind_ok (tlv_at tag bytes) (λ c. cond (test c.0) (Ok (value c.0, c.1)) (Err fault)) (x, rest) e in
      let g = guard_passed (test b.0.0) fault (value b.0.0, b.0.1) (x, rest) b.2 in
      let t = tlv_takes tag bytes b.0.0 b.0.1 fits b.1 in
      let left : b.0.1 ≡ rest = ap (λ (p : A × List ℕ). p.1) g.1 in (
        tlv tag b.0.0,
        (b.0.0, t.1, record { passes = g.0; stands = ap (λ (p : A × List ℕ). p.0) g.1 }, refl),
        subst
            (λ (q : List ℕ). bytes ≡ tlv tag b.0.0 ++ q) left t.0,
      );
  again = λ x front rest s.
      let one : tlv_at tag (front ++ rest) ≡ Ok (s.0, rest) =
      ap (λ (l : List ℕ). tlv_at tag (l ++ rest)) s.3 ∙ tlv_again tag s.0 rest s.1 in
      rw (one, s.2.passes, s.2.stands) refl;
}

-- ---- what a call of a reader ensures

pub is_found : {A X : Type 0} (S : A → List ℕ → Type 0) (f : List ℕ → Result (A × List ℕ) DerFault) → IsReading S f
    → (view : X → A × List ℕ) (r : Result X DerFault) (bytes : List ℕ)
    → IsBytes bytes → Gives view r (f bytes) → IfOk r (λ x. Stands (S (view x).0) bytes (view x).1)
is_found S f is view (Ok x) bytes fits h = is.takes bytes (view x).0 (view x).1 fits h
is_found S f is view (Err e) bytes fits h = tt

pub is_only : {A X : Type 0} (S : A → List ℕ → Type 0) (f : List ℕ → Result (A × List ℕ) DerFault) → IsReading S f
    → (view : X → A × List ℕ) (r : Result X DerFault) (bytes : List ℕ)
    → Gives view r (f bytes) → (x : A) (rest : List ℕ) → Stands (S x) bytes rest
    → IsOkAnd r (λ y. ((view y).0 ≡ x) × ((view y).1 ≡ rest))
is_only {A} S f is view (Ok y) bytes h x rest s =
    let again : f bytes ≡ Ok (x, rest) = ap f s.2 ∙ is.again x s.0 rest s.1 in
    let same = ok_is (view y) (x, rest) (sym h ∙ again) in
    (ap (λ (p : A × List ℕ). p.0) same, ap (λ (p : A × List ℕ). p.1) same)
is_only S f is view (Err d) bytes h x rest s =
    let again : f bytes ≡ Ok (x, rest) = ap f s.2 ∙ is.again x s.0 rest s.1 in
    absurd cc
