-- What is written for a database is read as that database, if each row is read as it was written.
use Rattle.std.proofs.Common.{◌≡◌, ◌≢◌, ℕ, Bool, true, false, cond, T, List, [], ◌∷◌, Option, Some, None, Ok, Less, Equal, Greater, Ordering, refl, sym, ap, subst, ◌∙◌, nat_cmp, is_eq, is_some, All}
use Rattle.std.specs.Ordering.{eq_by_cmp, match_ordering}
use Rattle.std.proofs.lemmas.List.Elements.{All-head, All-tail}
use Rattle.std.specs.Cmp.Lexicographic.{slice_cmp}
use Rattle.std.proofs.lemmas.Cmp.{nat_list_cmp_total, tied_itself}
use Rattle.std.specs.FinMap.{FinMap, find, is_sorted, entries_sorted, get, empty, insert, entries, from_entries, get-insert, get-empty, get-entries, same_map, slice_cmp-IsAntisymmetric, nat_cmp-IsAntisymmetric}
use Rattle.std.specs.FinMap.Entries.{below_all}
use Rattle.serde_json.specs.Data.{Data, Members, no_members, member, put}
use Rattle.rule_lists.proofs.Entries.{first, second, less}
use Rattle.krb_fields.specs.Name.{Components, name_cmp, name_total, name_exact, same_name, tied_exactly}
use Rattle.krb_fields.specs.NameLimits.{IsWithinLimits}
use Rattle.krb_fields.specs.NameText.{component_text, text_of}
use Rattle.principal_rows.specs.NameMap.{pairs}
use Rattle.principal_rows.specs.declared.name_map.Entry.{Entry}
use Rattle.principal_rows.specs.declared.row.Row.{Row}
use Rattle.principals_text.specs.Format.{newest}
use Rattle.principals.specs.Database.{Principals, IsDatabase}
use Rattle.principals_text.specs.NameOf.{component_of, name_of}
use Rattle.principals_text.specs.RowValue.{◌>>=◌, row_of}
use Rattle.principals_text.specs.RowWritten.{row_value}
use Rattle.principals_text.specs.ReadBack.{IsEntryReadBack}
use Rattle.principals_text.specs.Value.{entries_of, database}
use Rattle.principals_text.specs.Written.{with_rows, database_value}
use Rattle.principals_text.proofs.NameTexts.{component_of-text, name_of-text, text-name_of}

Rows : Type 0
Rows = FinMap name_cmp Row

-- the rows of members
abbrev map_of : Option (List (Components × Row)) → Option (FinMap name_cmp Row)
map_of found = found >>= λ es. Some (from_entries es)

abbrev joined : Option Components → Option Row → Option (List (Components × Row)) → Option (List (Components × Row))
joined name row rest = name >>= λ n. row >>= λ r. rest >>= λ es. Some ((n, r) ∷ es)

-- setting a row twice
set_twice : (m : FinMap name_cmp Row) (n : Components) (a b : Row) → insert m n b ≡ insert (insert m n a) n b
set_twice m n a b = same_map name_total name_exact _ _ (λ q. get-insert name_total m n b q ∙ at q (eq_by_cmp name_cmp q n) ∙ ap (cond (eq_by_cmp name_cmp q n) (Some b)) (sym (get-insert name_total m n a q)) ∙ sym (get-insert name_total (insert m n a) n b q))
  where
    at : (q : Components) (t : Bool) → cond t (Some b) (get m q) ≡ cond t (Some b) (cond t (Some a) (get m q))
    at q true = refl
    at q false = refl

-- setting the rows of two names in either order
set_apart : (m : FinMap name_cmp Row) (n o : Components) (a b : Row) → n ≢ o → insert (insert m n a) o b ≡ insert (insert m o b) n a
set_apart m n o a b other = same_map name_total name_exact _ _ (λ q.
    get-insert name_total (insert m n a) o b q ∙ ap (cond (eq_by_cmp name_cmp q o) (Some b)) (get-insert name_total m n a q)
    ∙ at q (eq_by_cmp name_cmp q n) (eq_by_cmp name_cmp q o) refl refl
    ∙ ap (cond (eq_by_cmp name_cmp q n) (Some a)) (sym (get-insert name_total m o b q)) ∙ sym (get-insert name_total (insert m o b) n a q))
  where
    at : (q : Components) (s t : Bool) → eq_by_cmp name_cmp q n ≡ s → eq_by_cmp name_cmp q o ≡ t → cond t (Some b) (cond s (Some a) (get m q)) ≡ cond s (Some a) (cond t (Some b) (get m q))
    at q true true i j = absurd (other (sym (same_name q n i) ∙ same_name q o j))
    at q true false i j = refl
    at q false t i j = refl

-- adding a member sets the row of its name
pub put_row : (k : List ℕ) (d : Data) (n : Components) (r : Row) → name_of k ≡ Some n → row_of newest d ≡ Some r → (ms : Members) (m : FinMap name_cmp Row) → map_of (entries_of newest ms) ≡ Some m → map_of (entries_of newest (put k d ms)) ≡ Some (insert m n r)
put_row k d n r named rowed no_members m is = let none : from_entries [] ≡ m = cc in rw (named, rowed) (ap (λ (x : FinMap name_cmp Row). Some (insert x n r)) none)
put_row k d n r named rowed (member l e ms) m is =
    at (name_of l) refl (row_of newest e) refl (entries_of newest ms) refl is (slice_cmp nat_cmp k l) refl (λ m' i. put_row k d n r named rowed ms m' i)
  where
    spelled : (o : Components) → name_of l ≡ Some o → n ≡ o → k ≡ l
    spelled o p same = sym (text-name_of n k named).1 ∙ ap text_of same ∙ (text-name_of o l p).1

    apart : (o : Ordering) → slice_cmp nat_cmp k l ≡ o → is_eq o ≡ false → k ≢ l
    apart o c not_equal same = let tie = tied_itself nat_list_cmp_total k in let c' = ap (slice_cmp nat_cmp k) same ∙ c in let e = ap is_eq (sym tie ∙ c') ∙ not_equal in cc

    at : (no : Option Components) → name_of l ≡ no → (ro : Option Row) → row_of newest e ≡ ro → (lo : Option (List (Components × Row))) → entries_of newest ms ≡ lo → map_of (joined no ro lo) ≡ Some m
        → (o : Ordering) → slice_cmp nat_cmp k l ≡ o
        → ((m' : FinMap name_cmp Row) → map_of (entries_of newest ms) ≡ Some m' → map_of (entries_of newest (put k d ms)) ≡ Some (insert m' n r))
        → map_of (entries_of newest (match_ordering o (member k d (member l e ms)) (member l d ms) (member l e (put k d ms)))) ≡ Some (insert m n r)
    at None p ro q lo s is o c more = cc
    at (Some a) p None q lo s is o c more = cc
    at (Some a) p (Some b) q None s is o c more = cc
    at (Some a) p (Some b) q (Some es) s is Less c more =
        let same : insert (from_entries es) a b ≡ m = cc in
        rw (named, rowed, p, q, s) (ap (λ (x : FinMap name_cmp Row). Some (insert x n r)) same)
    at (Some a) p (Some b) q (Some es) s is Equal c more =
        let same : insert (from_entries es) a b ≡ m = cc in
        let key : k ≡ l = slice_cmp-IsAntisymmetric nat_cmp-IsAntisymmetric k l c in
        let name : n ≡ a = let both = sym named ∙ ap name_of key ∙ p in cc in
        rw (p, rowed, s) (
        ap Some (set_twice (from_entries es) a b r ∙ ap (λ (x : FinMap name_cmp Row). insert x a r) same ∙ ap (λ (o : Components). insert m o r) (sym name)))
    at (Some a) p (Some b) q (Some es) s is Greater c more =
        let same : insert (from_entries es) a b ≡ m = cc in
        let other : n ≢ a = λ e. apart Greater c refl (spelled a p e) in
        let later = more (from_entries es) (ap map_of s) in
        rw (p, q) (grown (entries_of newest (put k d ms)) later other same)
      where
        grown : (lo : Option (List (Components × Row))) → map_of lo ≡ Some (insert (from_entries es) n r) → n ≢ a → insert (from_entries es) a b ≡ m → map_of (lo >>= λ es. Some ((a, b) ∷ es)) ≡ Some (insert m n r)
        grown None e other same = cc
        grown (Some fs) e other same =
            let put_in : from_entries fs ≡ insert (from_entries es) n r = cc in
            ap Some (ap (λ (x : FinMap name_cmp Row). insert x a b) put_in ∙ set_apart (from_entries es) n a r b other ∙ ap (λ (x : FinMap name_cmp Row). insert x n r) same)

-- ---- all rows

abbrev insert_all : FinMap name_cmp Row → List (Components × Row) → FinMap name_cmp Row
insert_all m [] = m
insert_all m (e ∷ es) = insert_all (insert m e.0 e.1) es

-- each name and each row is read as it was written
abbrev pub AreReadBack : List (Components × Row) → Type 0
AreReadBack [] = Unit {0}
AreReadBack (e ∷ es) = (name_of (text_of e.0) ≡ Some e.0) × (row_of newest (row_value e.1) ≡ Some e.1) × AreReadBack es

rows_put : (es : List (Components × Row)) (ms : Members) (m : FinMap name_cmp Row) → AreReadBack es → map_of (entries_of newest ms) ≡ Some m → map_of (entries_of newest (with_rows ms es)) ≡ Some (insert_all m es)
rows_put [] ms m reads is = is
rows_put (e ∷ es) ms m reads is = rows_put es (put (text_of e.0) (row_value e.1) ms) (insert m e.0 e.1) reads.2 (put_row (text_of e.0) (row_value e.1) e.0 e.1 reads.0 reads.1 ms m is)

equal : (o : Ordering) → is_eq o ≡ true → o ≡ Equal
equal Less e = cc
equal Equal e = refl
equal Greater e = cc

none_above : (x q : Components) (es : List (Components × Row)) → T (below_all name_cmp x es) → name_cmp q x ≡ Equal → find name_cmp q es ≡ None
none_above x q [] h tied = refl
none_above x q (e ∷ es) h tied = rw (name_total.congr q x e.0 tied ∙ less (name_cmp x e.0) (first _ _ h)) (none_above x q es (second _ _ h) tied)

or_else : {A : Type 0} → Option A → Option A → Option A
or_else None b = b
or_else (Some a) b = Some a

get-insert_all : (es : List (Components × Row)) (m : FinMap name_cmp Row) (q : Components) → T (is_sorted name_cmp es) → get (insert_all m es) q ≡ or_else (find name_cmp q es) (get m q)
unfolding or_else
get-insert_all [] m q s = refl
get-insert_all (e ∷ es) m q s =
    get-insert_all es (insert m e.0 e.1) q (second _ _ s) ∙ ap (or_else (find name_cmp q es)) (get-insert name_total m e.0 e.1 q) ∙ at (eq_by_cmp name_cmp q e.0) refl
  where
    at : (b : Bool) → eq_by_cmp name_cmp q e.0 ≡ b → or_else (find name_cmp q es) (cond b (Some e.1) (get m q)) ≡ or_else (cond b (Some e.1) (find name_cmp q es)) (get m q)
    at false is = refl
    at true is = ap (λ o. or_else o (Some e.1)) (none_above e.0 q es (first _ _ s) (equal _ is))

left_alone : (o : Option Row) → or_else o None ≡ o
unfolding or_else
left_alone None = refl
left_alone (Some r) = refl

all_inserted : (m : FinMap name_cmp Row) → insert_all empty (entries m) ≡ m
all_inserted m = same_map name_total name_exact _ _ (λ q.
    get-insert_all (entries m) empty q (entries_sorted m) ∙ ap (or_else (find name_cmp q (entries m))) (get-empty {X = Row} name_cmp q) ∙ left_alone (find name_cmp q (entries m)) ∙ sym (get-entries m q))

-- the law: if each row is read back, so is the database
pub database_read_back : (p : Principals) → IsDatabase p → AreReadBack (entries p.rows) → database (database_value p) ≡ Ok p
database_read_back p is reads =
    let rows : map_of (entries_of newest (with_rows no_members (entries p.rows))) ≡ Some p.rows = rows_put (entries p.rows) no_members empty reads refl ∙ ap Some (all_inserted p.rows) in
    let realm : component_of (component_text p.realm) ≡ Some p.realm = component_of-text p.realm (component_text p.realm) (is.realm_fits, refl) in
    rw (realm, rows, is.grants_tickets) refl

-- ---- the rows of a map

-- names that are found fit
unfoldable FoundFit : List (Components × Row) → Type 0
FoundFit es = (n : Components) → is_some (find name_cmp n es) ≡ true → IsWithinLimits n

later_fit : (e : Components × Row) (es : List (Components × Row)) → FoundFit (e ∷ es) → FoundFit es
unfolding FoundFit
later_fit e es fit n found = fit n (at (eq_by_cmp name_cmp n e.0))
  where
    at : (b : Bool) → is_some (cond b (Some e.1) (find name_cmp n es)) ≡ true
    at true = refl
    at false = found

each_read_back : (es : List (Entry Row)) → FoundFit (pairs es) → All IsEntryReadBack es → AreReadBack (pairs es)
unfolding FoundFit
each_read_back [] fit reads = tt
each_read_back (e ∷ es) fit reads =
    let held : is_some (find name_cmp e.name.components (pairs (e ∷ es))) ≡ true = ap (λ b. is_some (cond b (Some e.value) (find name_cmp e.name.components (pairs es)))) ((tied_exactly e.name.components e.name.components).1 refl) in (
      name_of-text e.name.components (text_of e.name.components) (fit e.name.components held, refl),
      All-head IsEntryReadBack e es reads,
      each_read_back es (later_fit (e.name.components, e.value) (pairs es) fit) (All-tail IsEntryReadBack e es reads),
    )

-- the entries of a database's map, if each row is read back
pub rows_read_back : (p : Principals) (es : List (Entry Row)) → IsDatabase p → pairs es ≡ entries p.rows → All IsEntryReadBack es → AreReadBack (entries p.rows)
unfolding FoundFit
rows_read_back p es is are reads =
    subst AreReadBack are
    (each_read_back es (λ n found. is.names_fit n (ap is_some (get-entries p.rows n) ∙ ap (λ l. is_some (find name_cmp n l)) (sym are) ∙ found)) reads)
