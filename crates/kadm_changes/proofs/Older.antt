-- Dropping all versions but the current one, one after another.
use Rattle.std.proofs.Common.{◌≡◌, ◌∙◌, ℕ, ◌<◌, ◌==◌, not, Bool, true, false, cond, suc, List, [], ◌∷◌, All, AllPairs}
use Rattle.std.proofs.Common.{map, take, Some, ap, sym, refl, arith}
use Rattle.std.proofs.lemmas.Bool.Decides.{nat_tests}
use Rattle.std.proofs.lemmas.List.Elements.{All-head, All-tail}
use Rattle.std.specs.FinMap.{FinMap, get, insert, same_map, get-insert}
use Rattle.std.specs.Ordering.{eq_by_cmp}
use Rattle.krb_fields.specs.Name.{Components, name_cmp, name_total, name_exact, same_name, tied_exactly}
use Rattle.principal_rows.specs.Row.{IsRow}
use Rattle.principal_rows.specs.Versions.{without}
use Rattle.principal_rows.specs.declared.row.KeyVersion.{KeyVersion}
use Rattle.principal_rows.specs.declared.row.Row.{Row}
use Rattle.principals.specs.Change.{row_changed, with_row}
use Rattle.principals.specs.Database.{Principals}
use Rattle.principals.specs.declared.change.RowChange.TheVariants as row_changes
use Rattle.kadm_changes.specs.Granting.{IsOlderDropped, older_numbers}

-- the keys of these versions dropped, one version after another
abbrev pub dropped : Components → List ℕ → Principals → Principals
dropped who [] p = p
dropped who (number ∷ numbers) p = dropped who numbers (row_changed p who (row_changes.DropKeys number))

-- ---- the row of one principal

-- setting a row to itself
same_row : (m : FinMap name_cmp Row) (who : Components) (row : Row) → get m who ≡ Some row → insert m who row ≡ m
same_row m who row found = same_map name_total name_exact _ _ (λ q. get-insert name_total m who row q ∙ at q (eq_by_cmp name_cmp q who) refl)
  where
    at : (q : Components) (t : Bool) → eq_by_cmp name_cmp q who ≡ t → cond t (Some row) (get m q) ≡ get m q
    at q true same = sym (ap (get m) (same_name q who same) ∙ found)
    at q false other = refl

-- setting a row twice
set_twice : (m : FinMap name_cmp Row) (who : Components) (a b : Row) → insert (insert m who a) who b ≡ insert m who b
set_twice m who a b = same_map name_total name_exact _ _ (λ q.
    get-insert name_total (insert m who a) who b q ∙ ap (cond (eq_by_cmp name_cmp q who) (Some b)) (get-insert name_total m who a q)
    ∙ at q (eq_by_cmp name_cmp q who) ∙ sym (get-insert name_total m who b q))
  where
    at : (q : Components) (t : Bool) → cond t (Some b) (cond t (Some a) (get m q)) ≡ cond t (Some b) (get m q)
    at q true = refl
    at q false = refl

set_there : (m : FinMap name_cmp Row) (who : Components) (row : Row) → get (insert m who row) who ≡ Some row
set_there m who row = get-insert name_total m who row who ∙ ap (λ t. cond t (Some row) (get m who)) ((tied_exactly who who).1 refl)

-- ---- its versions

abbrev without_each : List ℕ → List KeyVersion → List KeyVersion
without_each [] versions = versions
without_each (number ∷ numbers) versions = without_each numbers (without number versions)

dropped_by : (who : Components) (numbers : List ℕ) (p : Principals) (row : Row) → get p.rows who ≡ Some row
    → dropped who numbers p ≡ record p { rows = insert p.rows who (record row { versions = without_each numbers row.versions }) }
dropped_by who [] p row found = ap (λ rows. record p { rows = rows }) (sym (same_row p.rows who row found))
dropped_by who (number ∷ numbers) p row found =
    let less = record row { versions = without number row.versions } in
    let one : row_changed p who (row_changes.DropKeys number) ≡ record p { rows = insert p.rows who less } =
    ap (with_row p who (λ row. record row { versions = without number row.versions })) found in
    ap (dropped who numbers) one
    ∙ dropped_by who numbers (record p { rows = insert p.rows who less }) less (set_there p.rows who less)
    ∙ ap (λ rows. record p { rows = rows }) (set_twice p.rows who less (record row { versions = without_each numbers less.versions }))

-- a number above all of theirs belongs to none
same_without : (number : ℕ) (versions : List KeyVersion) → All (λ v. v.number < number) versions → without number versions ≡ versions
same_without number [] below = refl
same_without number (v ∷ vs) below =
    at (v.number == number) refl (same_without number vs (All-tail (λ v. v.number < number) v vs below))
  where
    at : (b : Bool) → (v.number == number) ≡ b → without number vs ≡ vs → cond (not b) (v ∷ without number vs) (without number vs) ≡ v ∷ vs
    at true same rest = absurd (grind (arith, nat_tests, same, All-head (λ v. v.number < number) v vs below))
    at false other rest = ap (λ left. v ∷ left) rest

goes : (v : KeyVersion) (vs : List KeyVersion) → All (λ w. w.number < v.number) vs → without v.number (v ∷ vs) ≡ vs
goes v vs below = at (v.number == v.number) refl
  where
    at : (b : Bool) → (v.number == v.number) ≡ b → cond (not b) (v ∷ without v.number vs) (without v.number vs) ≡ vs
    at true same = same_without v.number vs below
    at false other = absurd (grind (arith, nat_tests, other))

stays : (v : KeyVersion) (number : ℕ) (vs : List KeyVersion) → number < v.number → without number (v ∷ vs) ≡ v ∷ without number vs
stays v number vs above = at (v.number == number) refl
  where
    at : (b : Bool) → (v.number == number) ≡ b → cond (not b) (v ∷ without number vs) (without number vs) ≡ v ∷ without number vs
    at true same = absurd (grind (arith, nat_tests, same, above))
    at false other = refl

abbrev AreFalling : List KeyVersion → Type 0
AreFalling versions = AllPairs (λ v w. w.number < v.number) versions

below_first : (v : KeyVersion) (vs : List KeyVersion) → AreFalling (v ∷ vs) → All (λ w. w.number < v.number) vs
below_first v vs falling k d within = falling 0 (suc k) d (omega arith) (omega (arith, within))

later : (v : KeyVersion) (vs : List KeyVersion) → AreFalling (v ∷ vs) → AreFalling vs
later v vs falling i j d before within = falling (suc i) (suc j) d (omega (arith, before)) (omega (arith, within))

alone : (v : KeyVersion) (vs : List KeyVersion) → All (λ w. w.number < v.number) vs → AreFalling vs
    → without_each (map (λ w. w.number) vs) (v ∷ vs) ≡ v ∷ []
alone v [] below falling = refl
alone v (w ∷ ws) below falling =
    ap (without_each (map (λ w. w.number) ws))
    (stays v w.number (w ∷ ws) (All-head (λ w. w.number < v.number) w ws below) ∙ ap (λ rest. v ∷ rest) (goes w ws (below_first w ws falling)))
    ∙ alone v ws (All-tail (λ w. w.number < v.number) w ws below) (later w ws falling)

kept : (versions : List KeyVersion) → AreFalling versions → without_each (older_numbers versions) versions ≡ take 1 versions
kept [] falling = refl
kept (v ∷ vs) falling = alone v vs (below_first v vs falling) (later v vs falling)

pub older_dropped : (who : Components) (p : Principals) (row : Row) → get p.rows who ≡ Some row → IsRow row
    → IsOlderDropped who p (dropped who (older_numbers row.versions) p)
older_dropped who p row found is = (
  row,
  found,
  dropped_by who (older_numbers row.versions) p row found
      ∙ ap (λ versions. record p { rows = insert p.rows who (record row { versions = versions }) }) (kept row.versions is.versions_fit.falling),
)
