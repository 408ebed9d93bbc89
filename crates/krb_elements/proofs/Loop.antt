-- Reading values in a loop.
use Rattle.std.proofs.lemmas.Bool.{eqb-false}
use Rattle.std.specs.Prelude.{IsOk}
use Rattle.std.proofs.Common.{eqb, false, ◌≡◌, ℕ, zero, suc, ◌≤◌, ◌<◌, List, [], ◌∷◌, ◌++◌, length, Result, Ok, Err, refl, sym, ap, ◌∙◌, append_assoc, arith}
use Rattle.std.proofs.lemmas.List.{append-nil}
use Rattle.krb_der.specs.declared.fault.DerFault.{DerFault}
use Rattle.krb_der.specs.Reading.{◌>>=◌}
use Rattle.krb_elements.specs.declared.fault.Fault.{Fault}
use Rattle.krb_elements.specs.declared.fault.Fault.TheVariants as faults
use Rattle.krb_elements.specs.Format.{Fails, items}

-- what was read before, followed by what is still read
abbrev pub with_front : {A : Type 0} → List A → Result (List A) DerFault → Result (List A) DerFault
with_front front read = read >>= λ xs. Ok (front ++ xs)

-- what was read and what is left give the total
abbrev pub ReadsOn : {A : Type 0} → (List ℕ → Result (A × List ℕ) DerFault) → List A → List ℕ → Result (List A) DerFault → Type 0
ReadsOn f front bytes total = (n : ℕ) × (length bytes ≤ n) × (with_front front (items f n bytes) ≡ total)

regroup : {A : Type 0} (front : List A) (x : A) (read : Result (List A) DerFault) → with_front front (read >>= λ xs. Ok (x ∷ xs)) ≡ with_front (front ++ x ∷ []) read
regroup {A} front x (Ok xs) = ap (λ (ys : List A). Ok ys) (sym (append_assoc front (x ∷ []) xs))
regroup front x (Err d) = refl

pub begins : {A : Type 0} (f : List ℕ → Result (A × List ℕ) DerFault) (bytes : List ℕ) → ReadsOn f [] bytes (items f (length bytes) bytes)
begins {A} f bytes = (length bytes, omega arith, same (items f (length bytes) bytes))
  where
    same : {A : Type 0} (r : Result (List A) DerFault) → with_front [] r ≡ r
    same (Ok xs) = refl
    same (Err d) = refl

pub goes_on : {A : Type 0} (f : List ℕ → Result (A × List ℕ) DerFault) (front : List A) (bytes : List ℕ) (total : Result (List A) DerFault) (x : A) (after : List ℕ)
    → 0 < length bytes → length after < length bytes → f bytes ≡ Ok (x, after) → ReadsOn f front bytes total → ReadsOn f (front ++ x ∷ []) after total
unfolding items
goes_on f front [] total x after lt short e on = absurd (omega arith)
goes_on f front (b ∷ bytes) total x after lt short e (zero, le, so_far) = absurd (omega arith)
goes_on f front (b ∷ bytes) total x after lt short e (suc n, le, so_far) =
    let one : with_front front (items f (suc n) (b ∷ bytes)) ≡ with_front (front ++ x ∷ []) (items f n after) = rw e (regroup front x (items f n after)) in
    (n, omega arith, sym one ∙ so_far)

pub fails : {A : Type 0} (f : List ℕ → Result (A × List ℕ) DerFault) (front : List A) (bytes : List ℕ) (total : Result (List A) DerFault) (e : Fault)
    → 0 < length bytes → Fails e (f bytes) → ReadsOn f front bytes total → Fails e total
unfolding items
fails f front bytes total faults.Memory lt h on = tt
fails f front [] total (faults.Der d) lt h on = absurd (omega arith)
fails f front (b ∷ bytes) total (faults.Der d) lt h (zero, le, so_far) = absurd (omega arith)
fails f front (b ∷ bytes) total (faults.Der d) lt h (suc n, le, so_far) =
    let one : with_front front (items f (suc n) (b ∷ bytes)) ≡ Err d = rw h refl in
    sym so_far ∙ one

pub is_done : {A : Type 0} (f : List ℕ → Result (A × List ℕ) DerFault) (front : List A) (bytes : List ℕ) (total : Result (List A) DerFault)
    → length bytes ≡ 0 → ReadsOn f front bytes total → total ≡ Ok front
unfolding items
is_done {A} f front [] total e on = sym on.2 ∙ ap (λ (ys : List A). Ok ys) (append-nil front)
is_done f front (b ∷ bytes) total e on = absurd (omega arith)

pub is_some : (bytes : List ℕ) → eqb (length bytes) 0 ≡ false → 0 < length bytes
is_some bytes e = omega (arith, eqb-false (length bytes) 0 e)

pub is_ok_at : {A : Type 0} (r : Result (List A) DerFault) (xs : List A) → r ≡ Ok xs → IsOk r
is_ok_at r xs e = rw e refl
