-- A key of the current version is found by its encryption type and the version's number.
use Rattle.std.proofs.Common.{◌≡◌, ℤ, pos, Bool, true, false, cond, List, [], ◌∷◌, Option, Some, None, refl, sym, ap}
use Rattle.std.proofs.Common.{◌∙◌}
use Rattle.std.specs.Option.{option_or, unwrap_or}
use Rattle.std.specs.Ordering.{int_eq}
use Rattle.std.proofs.lemmas.Bool.Decides.{Decides-int_eq}
use Rattle.enctypes.specs.Etype.{number}
use Rattle.enctypes.specs.declared.key.Key.{Key}
use Rattle.principal_rows.specs.Versions.{current}
use Rattle.principal_rows.specs.declared.row.KeyVersion.{KeyVersion}
use Rattle.preauth.specs.Keys.{first_key, key_by, key_in, key_numbered, numbered}

same_number : (n : ℤ) → int_eq n n ≡ true
same_number n = (Decides-int_eq n n).1 refl

of_its_type : (keys : List Key) (n : ℤ) (k : Key) → key_numbered keys n ≡ Some k → number k.etype ≡ n
of_its_type [] n k e = absurd cc
of_its_type (x ∷ xs) n k e = at (of_its_type xs n k) (int_eq (number x.etype) n) refl e
  where
    at : (key_numbered xs n ≡ Some k → number k.etype ≡ n) → (b : Bool) → int_eq (number x.etype) n ≡ b
        → cond b (Some x) (key_numbered xs n) ≡ Some k → number k.etype ≡ n
    at later true is e =
        sym (ap (λ (o : Option Key). number (unwrap_or o x).etype) e) ∙ (Decides-int_eq (number x.etype) n).0 is
    at later false is e = later e

-- the key of the first encryption type for which there is one
pub first_found : (keys : List Key) (types : List ℤ) (k : Key) → first_key keys types ≡ Some k
    → key_numbered keys (number k.etype) ≡ Some k
first_found keys [] k e = absurd cc
first_found keys (n ∷ ns) k e = at (first_found keys ns k) (key_numbered keys n) refl e
  where
    at : (first_key keys ns ≡ Some k → key_numbered keys (number k.etype) ≡ Some k) → (o : Option Key)
        → key_numbered keys n ≡ o
        → option_or o (first_key keys ns) ≡ Some k → key_numbered keys (number k.etype) ≡ Some k
    at later (Some x) is e = ap (λ (t : ℤ). key_numbered keys t) (of_its_type keys n k (is ∙ e)) ∙ is ∙ e
    at later None is e = later e

-- the first key
pub front_found : (k : Key) (later : List Key) → key_numbered (k ∷ later) (number k.etype) ≡ Some k
front_found k later = ap (λ b. cond b (Some k) (key_numbered later (number k.etype))) (same_number (number k.etype))

-- a key of the current version
pub current_found : (versions : List KeyVersion) (k : Key)
    → key_numbered (current versions).keys (number k.etype) ≡ Some k
    → key_by versions (number k.etype) (Some (pos (current versions).number)) ≡ Some k
current_found [] k e = absurd cc
current_found (v ∷ vs) k e =
    ap (λ b. key_in (cond b (Some v) (numbered vs (pos v.number))) (number k.etype)) (same_number (pos v.number)) ∙ e
