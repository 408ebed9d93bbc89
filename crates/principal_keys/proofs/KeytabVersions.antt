-- Reading the versions in a keytab, one after another.
use Rattle.std.proofs.Common.{◌≡◌, ◌∙◌, ℕ, ◌^◌, ◌≤◌, ◌<◌, ◌==◌, ◌&&◌, ◌||◌, max, zero, refl, Bool, true}
use Rattle.std.proofs.Common.{false, suc, List, [], ◌∷◌, ◌++◌, All, IsTrue, drop, drop-cons, length, get_or, Option, Some, None}
use Rattle.std.proofs.Common.{ap, sym, subst, inl, inr, arith, if◌then◌else◌, append_assoc, filter_map}
use Rattle.std.proofs.lemmas.List.{append-nil}
use Rattle.std.proofs.lemmas.Bool.Decides.{nat_tests}
use Rattle.std.proofs.lemmas.List.Elements.{All-cons, All-nil, All-push}
use Rattle.std.proofs.lemmas.List.Folds.{list_any-append}
use Rattle.enctypes.specs.declared.etype.Etype.{Etype}
use Rattle.enctypes.specs.Key.{ProtocolKey}
use Rattle.cred_files.specs.Keytab.{is_of}
use Rattle.cred_files.specs.declared.keytab_entry.KeytabEntry.{KeytabEntry}
use Rattle.krb_fields.specs.Name.{Components}
use Rattle.principal_rows.specs.declared.row.KeyVersion.{KeyVersion}
use Rattle.principal_keys.specs.Keytabs.{AreTaken, IsComplete, IsThereIfHeld, greater, has_number, is_below, keys_at}
use Rattle.principal_keys.specs.Keytabs.{next_number, with_version}

-- ---- the next number

-- what is left from an index on
here_is : {A : Type 0} (es : List A) (i j : ℕ) (e : A) → j ≡ suc i → e ≡ get_or es i e → i < length es → drop i es ≡ e ∷ drop j es
here_is es i j e next is lt = drop-cons es i e lt ∙ (λ k. sym is k ∷ drop (sym next k) es)

pub none_yet : (s : Components) (bound : Option ℕ) (es : List KeytabEntry) (i : ℕ) → length es ≤ i → next_number s bound (drop i es) ≡ None
none_yet s bound [] zero le = refl
none_yet s bound [] (suc i) le = refl
none_yet s bound (e ∷ es) zero le = absurd (omega (arith, le))
none_yet s bound (e ∷ es) (suc i) le = none_yet s bound es i (omega (arith, le))

pub found_here : (s : Components) (bound : Option ℕ) (es : List KeytabEntry) (i j : ℕ) (e : KeytabEntry) (found : Option ℕ) → j ≡ suc i → e ≡ get_or es i e
    → i < length es → (is_of s e && is_below bound e.version) ≡ true → next_number s bound (drop j es) ≡ found
    → next_number s bound (drop i es) ≡ Some (greater e.version found)
found_here s bound es i j e found next is lt pass so_far =
    ap (next_number s bound) (here_is es i j e next is lt) ∙ rw pass (ap (λ (o : Option ℕ). some (greater e.version o)) so_far)
  where
    some : ℕ → Option ℕ
    some n = Some n

pub not_here : (s : Components) (bound : Option ℕ) (es : List KeytabEntry) (i j : ℕ) (e : KeytabEntry) (found : Option ℕ) → j ≡ suc i → e ≡ get_or es i e
    → i < length es → (is_of s e && is_below bound e.version) ≡ false → next_number s bound (drop j es) ≡ found
    → next_number s bound (drop i es) ≡ found
not_here s bound es i j e found next is lt fail so_far = ap (next_number s bound) (here_is es i j e next is lt) ∙ rw fail so_far

-- an entry of the principal below the bound is at most this number
abbrev IsAtMost : Components → Option ℕ → ℕ → KeytabEntry → Type 0
IsAtMost s bound number e = IsTrue (is_of s e) → IsTrue (is_below bound e.version) → e.version ≤ number

-- an entry of the principal is not below the bound
abbrev IsNotBelow : Components → Option ℕ → KeytabEntry → Type 0
IsNotBelow s bound e = IsTrue (is_of s e) → is_below bound e.version ≡ false

-- a number is the next one, or there is none
abbrev IsNext : Components → Option ℕ → List KeytabEntry → Option ℕ → Type 0
IsNext s bound es (Some number) = IsTrue (is_below bound number) × All (IsAtMost s bound number) es
IsNext s bound es None = All (IsNotBelow s bound) es

both_below : (bound : Option ℕ) (a b : ℕ) → IsTrue (is_below bound a) → IsTrue (is_below bound b) → IsTrue (is_below bound (max a b))
both_below None a b below also = refl
both_below (Some n) a b below also = grind (arith, nat_tests, below, also)

clash : false ≡ true → ⊥
clash e = cc

is_next : (s : Components) (bound : Option ℕ) (es : List KeytabEntry) → IsNext s bound es (next_number s bound es)
is_next s bound [] = All-nil (IsNotBelow s bound)
is_next s bound (e ∷ es) = step (is_of s e) (is_below bound e.version) refl refl (next_number s bound es) (is_next s bound es)
  where
    step : (of below : Bool) → is_of s e ≡ of → is_below bound e.version ≡ below → (found : Option ℕ) → IsNext s bound es found
        → IsNext s bound (e ∷ es) (if of && below then Some (greater e.version found) else found)
    step true true of below None none =
        (below, All-cons (IsAtMost s bound e.version) e es (λ _ _. omega arith) (λ k d lt is under. absurd (clash (sym (none k d lt is) ∙ under))))
    step true true of below (Some other) (under, each) =
        (both_below bound e.version other below under, All-cons (IsAtMost s bound (max e.version other)) e es (λ _ _. omega arith) (λ k d lt is low. omega (arith, each k d lt is low)))
    step true false of below None none = All-cons (IsNotBelow s bound) e es (λ _. below) none
    step true false of below (Some other) (under, each) = (under, All-cons (IsAtMost s bound other) e es (λ _ low. absurd (clash (sym below ∙ low))) each)
    step false b of below None none = All-cons (IsNotBelow s bound) e es (λ is. absurd (clash (sym of ∙ is))) none
    step false b of below (Some other) (under, each) = (under, All-cons (IsAtMost s bound other) e es (λ is low. absurd (clash (sym of ∙ is))) each)

-- ---- all versions

-- how many numbers there are below a bound
abbrev pub room : Option ℕ → ℕ
room None = 2 ^ 32
room (Some bound) = bound

pub next_below : (s : Components) (bound : Option ℕ) (es : List KeytabEntry) (number : ℕ) → next_number s bound es ≡ Some number → is_below bound number ≡ true
next_below s bound es number is = (subst (IsNext s bound es) is (is_next s bound es)).0

pub less_room : (bound : Option ℕ) (s : Components) (es : List KeytabEntry) (number : ℕ) → number < 2 ^ 32 → next_number s bound es ≡ Some number → number < room bound
less_room None s es number fits is = fits
less_room (Some bound) s es number fits is =
    let next = subst (IsNext s (Some bound) es) is (is_next s (Some bound) es) in grind (arith, nat_tests, next.0)

-- every version with a number that is not below the bound was read
abbrev pub IsSeen : List KeytabEntry → Components → List Etype → Option ℕ → List KeyVersion → Type 0
IsSeen es s etypes bound versions =
    All (λ e. IsTrue (is_of s e) → is_below bound e.version ≡ false → IsThereIfHeld es s etypes versions e.version) es

pub none_seen : (es : List KeytabEntry) (s : Components) (etypes : List Etype) → IsSeen es s etypes None []
none_seen es s etypes k d lt of above = absurd cc

more_there : (es : List KeytabEntry) (s : Components) (etypes : List Etype) (versions : List KeyVersion) (v : KeyVersion) (number : ℕ)
    → IsThereIfHeld es s etypes versions number → IsThereIfHeld es s etypes (versions ++ v ∷ []) number
more_there es s etypes versions v number (inl none) = inl none
more_there es s etypes versions v number (inr there) =
    inr (list_any-append (λ w. w.number == number) versions (v ∷ []) ∙ ap (λ b. b || has_number number (v ∷ [])) there)

there_now : (es : List KeytabEntry) (s : Components) (etypes : List Etype) (versions : List KeyVersion) (v : KeyVersion)
    → IsThereIfHeld es s etypes (versions ++ v ∷ []) v.number
there_now es s etypes versions v =
    inr (list_any-append (λ w. w.number == v.number) versions (v ∷ []) ∙ last (has_number v.number versions))
  where
    last : (b : Bool) → (b || has_number v.number (v ∷ [])) ≡ true
    last true = refl
    last false = grind (arith, nat_tests)

-- with the version of the next number, if there is one
seen : (es : List KeytabEntry) (s : Components) (etypes : List Etype) (bound : Option ℕ) (old new : List KeyVersion) (number : ℕ)
    → next_number s bound es ≡ Some number → ((n : ℕ) → IsThereIfHeld es s etypes old n → IsThereIfHeld es s etypes new n)
    → IsThereIfHeld es s etypes new number → IsSeen es s etypes bound old → IsSeen es s etypes (Some number) new
seen es s etypes bound old new number is more there before k d lt of past =
    at (is_below bound (get_or es k d).version) refl
  where
    next : IsNext s bound es (Some number)
    next = subst (IsNext s bound es) is (is_next s bound es)

    at : (b : Bool) → is_below bound (get_or es k d).version ≡ b → IsThereIfHeld es s etypes new (get_or es k d).version
    at false above = more (get_or es k d).version (before k d lt of above)
    at true below =
        let same : number ≡ (get_or es k d).version = grind (arith, nat_tests, next.1 k d lt of below, past) in
        subst (IsThereIfHeld es s etypes new) same there

pub seen_with : (es : List KeytabEntry) (s : Components) (etypes : List Etype) (bound : Option ℕ) (versions : List KeyVersion) (v : KeyVersion)
    → next_number s bound es ≡ Some v.number → IsSeen es s etypes bound versions → IsSeen es s etypes (Some v.number) (versions ++ v ∷ [])
seen_with es s etypes bound versions v is before =
    seen es s etypes bound versions (versions ++ v ∷ []) v.number is (more_there es s etypes versions v) (there_now es s etypes versions v) before

pub seen_without : (es : List KeytabEntry) (s : Components) (etypes : List Etype) (bound : Option ℕ) (versions : List KeyVersion) (number : ℕ)
    → next_number s bound es ≡ Some number → keys_at es s etypes number ≡ [] → IsSeen es s etypes bound versions → IsSeen es s etypes (Some number) versions
seen_without es s etypes bound versions number is none before = seen es s etypes bound versions versions number is (λ n there. there) (inl none) before

pub seen_all : (es : List KeytabEntry) (s : Components) (etypes : List Etype) (bound : Option ℕ) (versions : List KeyVersion)
    → next_number s bound es ≡ None → IsSeen es s etypes bound versions → IsComplete es s etypes versions
seen_all es s etypes bound versions is before k d lt of =
    before k d lt of (subst (IsNext s bound es) is (is_next s bound es) k d lt of)

-- ---- the keys of one version

pub picked : {A B : Type 0} (f : A → Option B) (xs : List A) (i j : ℕ) (x : A) (key : B) (out new whole : List B) → j ≡ suc i → x ≡ get_or xs i x → i < length xs
    → f x ≡ Some key → new ≡ out ++ key ∷ [] → out ++ filter_map f (drop i xs) ≡ whole → new ++ filter_map f (drop j xs) ≡ whole
picked {A} {B} f xs i j x key out new whole next is lt some put so_far =
    let here : filter_map f (drop i xs) ≡ key ∷ filter_map f (drop j xs) =
    ap (filter_map f) (here_is xs i j x next is lt) ∙ rw some refl in
    ap (λ (l : List B). l ++ filter_map f (drop j xs)) put ∙ append_assoc out (key ∷ []) (filter_map f (drop j xs))
    ∙ sym (ap (λ (l : List B). out ++ l) here) ∙ so_far

pub passed_by : {A B : Type 0} (f : A → Option B) (xs : List A) (i j : ℕ) (x : A) (out whole : List B) → j ≡ suc i → x ≡ get_or xs i x → i < length xs
    → f x ≡ None → out ++ filter_map f (drop i xs) ≡ whole → out ++ filter_map f (drop j xs) ≡ whole
passed_by {A} {B} f xs i j x out whole next is lt none so_far =
    let here : filter_map f (drop i xs) ≡ filter_map f (drop j xs) =
    ap (filter_map f) (here_is xs i j x next is lt) ∙ rw none refl in
    sym (ap (λ (l : List B). out ++ l) here) ∙ so_far

pub picked_all : {A B : Type 0} (f : A → Option B) (xs : List A) (i : ℕ) (out : List B) → length xs ≤ i → out ++ filter_map f (drop i xs) ≡ filter_map f xs → out ≡ filter_map f xs
picked_all {A} {B} f xs i out le so_far =
    sym (append-nil out) ∙ sym (ap (λ (l : List A). out ++ filter_map f l) (none_left xs i le)) ∙ so_far
  where
    none_left : (ys : List A) (k : ℕ) → length ys ≤ k → drop k ys ≡ []
    none_left [] zero at = refl
    none_left [] (suc k) at = refl
    none_left (y ∷ ys) zero at = absurd (omega (arith, at))
    none_left (y ∷ ys) (suc k) at = none_left ys k (omega (arith, at))

-- ---- one more version

pub some_keys : (number : ℕ) (keys : List ProtocolKey) (versions : List KeyVersion) → 0 < length keys
    → with_version number keys versions ≡ versions ++ record { number = number; keys = keys } ∷ []
some_keys number [] versions some = absurd (omega (arith, some))
some_keys number (key ∷ keys) versions some = refl

-- what was read for all numbers that are not below the bound
abbrev pub IsTakenTo : List KeytabEntry → Components → List Etype → Option ℕ → List KeyVersion → Type 0
IsTakenTo es s etypes bound versions = All (λ v. v.keys ≡ keys_at es s etypes v.number) versions × IsSeen es s etypes bound versions

pub none_taken : (es : List KeytabEntry) (s : Components) (etypes : List Etype) (versions : List KeyVersion) → versions ≡ [] → IsTakenTo es s etypes None versions
none_taken es s etypes versions is = subst (IsTakenTo es s etypes None) (sym is) (All-nil _, none_seen es s etypes)

pub taken_to : (es : List KeytabEntry) (s : Components) (etypes : List Etype) (bound : Option ℕ) (versions new : List KeyVersion) (number : ℕ)
    → next_number s bound es ≡ Some number → new ≡ with_version number (keys_at es s etypes number) versions
    → IsTakenTo es s etypes bound versions → IsTakenTo es s etypes (Some number) new
taken_to es s etypes bound versions new number is more (held, before) = by (keys_at es s etypes number) refl
  where
    by : (keys : List ProtocolKey) → keys_at es s etypes number ≡ keys → IsTakenTo es s etypes (Some number) new
    by [] none =
        let same : new ≡ versions = more ∙ ap (λ keys. with_version number keys versions) none in
        subst (IsTakenTo es s etypes (Some number)) (sym same) (held, seen_without es s etypes bound versions number is none before)
    by (key ∷ keys) some =
        let v : KeyVersion = record { number = number; keys = key ∷ keys } in
        let same : new ≡ versions ++ v ∷ [] = more ∙ ap (λ keys. with_version number keys versions) some in
        subst (IsTakenTo es s etypes (Some number)) (sym same)
        (All-push (λ (w : KeyVersion). w.keys ≡ keys_at es s etypes w.number) versions v held (sym some), seen_with es s etypes bound versions v is before)

pub all_taken : (es : List KeytabEntry) (s : Components) (etypes : List Etype) (bound : Option ℕ) (versions : List KeyVersion)
    → next_number s bound es ≡ None → IsTakenTo es s etypes bound versions → AreTaken es s etypes versions
all_taken es s etypes bound versions is (held, before) = (held, seen_all es s etypes bound versions is before)
