-- Where a keytab has no versions of a principal.
use Rattle.std.proofs.Common.{◌≡◌, ◌∙◌, ◌⊎◌, ◌&&◌, ◌<◌, ℕ, Bool, true, false, nat_lt, List, [], ◌∷◌, All, AllPairs, get_or, length, Option, Some, None, ap, sym, subst, refl, inl, inr, arith, zero, suc}
use Rattle.std.proofs.lemmas.Bool.Decides.{nat_tests}
use Rattle.std.proofs.lemmas.List.Elements.{All-nil, All-push, All-tail}
use Rattle.std.proofs.lemmas.List.Quantifiers.{all_pairs_push}
use Rattle.enctypes.specs.declared.etype.Etype.{Etype}
use Rattle.enctypes.specs.Key.{ProtocolKey}
use Rattle.cred_files.specs.declared.keytab_entry.KeytabEntry.{KeytabEntry}
use Rattle.krb_fields.specs.Name.{Components}
use Rattle.principal_rows.specs.Versions.{are_falling, are_versions, is_above}
use Rattle.principal_rows.specs.declared.row.KeyVersion.{KeyVersion}
use Rattle.principal_keys.specs.Keytabs.{AreOrdered, AreTaken, HasKeyOfZero, HasNoKeys, IsThereIfHeld, is_below, keys_at, next_number, with_version}
use Rattle.principal_keys.proofs.KeytabVersions.{next_below}

-- ---- the order of what was read

-- the versions are in order, and none is below the bound
abbrev pub IsOrderedTo : Option ℕ → List KeyVersion → Type 0
IsOrderedTo bound versions = AreOrdered versions × All (λ v. is_below bound v.number ≡ false) versions

pub none_ordered : (versions : List KeyVersion) → versions ≡ [] → IsOrderedTo None versions
none_ordered [] is = ((λ i j d lt within. absurd (omega (arith, within)), All-nil _), All-nil _)
none_ordered (v ∷ vs) is = absurd cc

clash : true ≡ false → ⊥
clash e = cc

above : (bound : Option ℕ) (number other : ℕ) → is_below bound number ≡ true → is_below bound other ≡ false → number < other
above None number other below not = absurd (clash not)
above (Some n) number other below not = grind (arith, nat_tests, below, not)

pub ordered_to : (s : Components) (bound : Option ℕ) (es : List KeytabEntry) (number : ℕ) (keys : List ProtocolKey) (versions new : List KeyVersion)
    → next_number s bound es ≡ Some number → new ≡ with_version number keys versions → IsOrderedTo bound versions → IsOrderedTo (Some number) new
ordered_to s bound es number keys versions new next is (ordered, past) = subst (IsOrderedTo (Some number)) (sym is) (by keys)
  where
    lower : (k : ℕ) (d : KeyVersion) → k < length versions → number < (get_or versions k d).number
    lower k d lt = above bound number (get_or versions k d).number (next_below s bound es number next) (past k d lt)

    not_below : (a b : ℕ) → a < b → nat_lt b a ≡ false
    not_below a b lt = grind (arith, nat_tests, lt)

    self : (n : ℕ) → nat_lt n n ≡ false
    self n = grind (arith, nat_tests)

    all_past : All (λ v. is_below (Some number) v.number ≡ false) versions
    all_past k d lt = not_below number (get_or versions k d).number (lower k d lt)

    by : (keys : List ProtocolKey) → IsOrderedTo (Some number) (with_version number keys versions)
    by [] = (ordered, all_past)
    by (key ∷ keys) =
        let v : KeyVersion = record { number = number; keys = key ∷ keys } in (
          (all_pairs_push (λ v w. w.number < v.number) versions v ordered.0 lower, All-push (λ v. 0 < length v.keys) versions v ordered.1 (omega arith)),
          All-push (λ v. is_below (Some number) v.number ≡ false) versions v all_past (self number),
        )

-- ---- no versions

-- numbers that are in order and yet no versions' have a 0 among them
zero_there : (es : List KeytabEntry) (s : Components) (etypes : List Etype) (versions : List KeyVersion) → AllPairs (λ v w. w.number < v.number) versions
    → All (λ v. 0 < length v.keys) versions → All (λ v. v.keys ≡ keys_at es s etypes v.number) versions → are_falling versions ≡ false → HasKeyOfZero es s etypes
zero_there es s etypes [] falling some taken fails = absurd (clash fails)
zero_there es s etypes (v ∷ vs) falling some taken fails =
    by v.number refl (zero_there es s etypes vs (λ i j d lt within. falling (suc i) (suc j) d (omega (arith, lt)) (omega (arith, within))) (All-tail (λ v. 0 < length v.keys) v vs some)
    (All-tail (λ v. v.keys ≡ keys_at es s etypes v.number) v vs taken))
  where
    no_key : (keys : List ProtocolKey) → 0 < length keys → keys ≡ [] → ⊥
    no_key [] lt is = absurd (omega (arith, lt))
    no_key (key ∷ keys) lt is = cc

    test : (m n : ℕ) → m < n → nat_lt m n ≡ true
    test m n lt = grind (arith, nat_tests, lt)

    next : (vs : List KeyVersion) → AllPairs (λ v w. w.number < v.number) (v ∷ vs) → is_above v vs ≡ true
    next [] pairs = refl
    next (w ∷ ws) pairs = test w.number v.number (pairs 0 1 v (omega arith) (omega arith))

    by : (n : ℕ) → v.number ≡ n → (are_falling vs ≡ false → HasKeyOfZero es s etypes) → HasKeyOfZero es s etypes
    by zero is later = λ none. no_key v.keys (some 0 v (omega arith)) (taken 0 v (omega arith) ∙ ap (keys_at es s etypes) is ∙ none)
    by (suc n) is later =
        later (rest (nat_lt 0 v.number) (is_above v vs) (are_falling vs) (test 0 v.number (omega (arith, is))) (next vs falling) fails)
      where
        rest : (a b c : Bool) → a ≡ true → b ≡ true → (a && b && c) ≡ false → c ≡ false
        rest true true c first second is = is
        rest true false c first second is = absurd (clash (sym second))
        rest false b c first second is = absurd (clash (sym first))

pub empty_where : (es : List KeytabEntry) (s : Components) (etypes : List Etype) (versions : List KeyVersion) → AreTaken es s etypes versions → AreOrdered versions
    → are_versions versions ≡ false → HasNoKeys es s etypes ⊎ HasKeyOfZero es s etypes
empty_where es s etypes [] (taken, complete) ordered fails = inl (λ k d lt of. none (get_or es k d).version (complete k d lt of))
  where
    none : (number : ℕ) → IsThereIfHeld es s etypes [] number → keys_at es s etypes number ≡ []
    none number (inl held) = held
    none number (inr there) = absurd (clash (sym there))
empty_where es s etypes (v ∷ vs) (taken, complete) (falling, some) fails =
    inr (zero_there es s etypes (v ∷ vs) falling some taken (rest (nat_lt 0 (length (v ∷ vs))) (are_falling (v ∷ vs)) (test 0 (length (v ∷ vs)) (omega arith)) fails))
  where
    test : (m n : ℕ) → m < n → nat_lt m n ≡ true
    test m n lt = grind (arith, nat_tests, lt)

    rest : (a b : Bool) → a ≡ true → (a && b) ≡ false → b ≡ false
    rest true b first is = is
    rest false b first is = absurd (clash (sym first))
