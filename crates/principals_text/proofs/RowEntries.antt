-- The rows of an object's members, member by member.
use Rattle.std.proofs.Common.{◌≡◌, subst, Bool, true, false, cond, List, [], ◌∷◌, ◌++◌, Option, Some, None, String, Global, string_bytes, refl, sym, ap, ◌∙◌, IsTrue, IfSome, is_some, All, codes}
use Rattle.std.proofs.lemmas.List.Elements.{All-head, All-tail, All-push}
use Rattle.std.specs.Ordering.{eq_by_cmp}
use Rattle.std.specs.FinMap.{FinMap, find, get, contains_key, empty, from_entries, get-empty, get-from_entries}
use Rattle.serde_json.specs.Data.{Data, Members, no_members, member}
use Rattle.serde_json.specs.View.{view, members_view}
use Rattle.serde_json.specs.declared.value.Value.{Value}
use Rattle.krb_fields.specs.Name.{Components, name_cmp, name_total}
use Rattle.principal_rows.specs.NameMap.{pairs}
use Rattle.principal_rows.specs.declared.name_map.Entry.{Entry}
use Rattle.principal_rows.specs.declared.row.Row.{Row}
use Rattle.principal_rows.specs.Row.{IsRow}
use Rattle.principals.specs.Database.{AreRows}
use Rattle.principals_text.specs.declared.format.Format.{Format}
use Rattle.principals_text.specs.NameOf.{name_of}
use Rattle.principals_text.specs.RowValue.{◌>>=◌, row_of}
use Rattle.principals_text.specs.Value.{entries_of, rows_of}
use Rattle.serde_json.specs.Find.{as_object}
use Rattle.serde_json.specs.Find as look
use Rattle.principals_text.proofs.NameTexts.{text-name_of}
use Rattle.principals.specs.NamesLaws.{names_fit-insert, AllNamesFit}

abbrev pub Text : Type 0
Text = String Global × Value

-- ---- entries that are rows

pub rows_push : (es made : List (Entry Row)) (entry : Entry Row) → All (λ e. IsRow e.value) es → IsRow entry.value → made ≡ es ++ entry ∷ [] → All (λ e. IsRow e.value) made
rows_push es made entry fit here is = subst (All (λ (e : Entry Row). IsRow e.value)) (sym is) (All-push (λ e. IsRow e.value) es entry fit here)

pub rows_fit-entries : (es : List (Entry Row)) (made : FinMap name_cmp Row) → All (λ e. IsRow e.value) es → made ≡ from_entries (pairs es) → AreRows made
rows_fit-entries es made fit is other =
    subst (λ (o : Option Row). IfSome o IsRow) (sym (ap (λ (m : FinMap name_cmp Row). get m other) is ∙ get-from_entries name_total (pairs es) other)) (found es fit)
  where
    found : (es : List (Entry Row)) → All (λ e. IsRow e.value) es → IfSome (find name_cmp other (pairs es)) IsRow
    found [] fit = tt
    found (e ∷ es) fit = at (eq_by_cmp name_cmp other e.name.components) (found es (All-tail (λ e. IsRow e.value) e es fit))
      where
        at : (b : Bool) → IfSome (find name_cmp other (pairs es)) IsRow → IfSome (cond b (Some e.value) (find name_cmp other (pairs es))) IsRow
        at true later = All-head (λ e. IsRow e.value) e es fit
        at false later = later

-- ---- entries from members

pairs-push : (es : List (Entry Row)) (e : Entry Row) → pairs (es ++ e ∷ []) ≡ pairs es ++ (e.name.components, e.value) ∷ []
pairs-push [] e = refl
pairs-push (x ∷ es) e = ap (λ l. (x.name.components, x.value) ∷ l) (pairs-push es e)

module _ (format : Format) where
  abbrev joined : Option Components → Option Row → Option (List (Components × Row)) → Option (List (Components × Row))
  joined name row rest = name >>= λ n. row >>= λ r. rest >>= λ es. Some ((n, r) ∷ es)

  joined_none : (name : Option Components) (row : Option Row) → joined name row None ≡ None
  joined_none None row = refl
  joined_none (Some n) None = refl
  joined_none (Some n) (Some r) = refl

  entries_push : (done : List Text) (e : Text) (es : List (Components × Row)) (name : Components) (row : Row) → entries_of format (members_view done) ≡ Some es → name_of (string_bytes e.0) ≡ Some name → row_of format (view e.1) ≡ Some row
      → entries_of format (members_view (done ++ e ∷ [])) ≡ Some (es ++ (name, row) ∷ [])
  entries_push [] e es name row before named rowed = let none : [] ≡ es = cc in rw (named, rowed) (ap (λ l. Some (l ++ (name, row) ∷ [])) none)
  entries_push (d ∷ done) e es name row before named rowed =
      at (name_of (string_bytes d.0)) (row_of format (view d.1)) (entries_of format (members_view done)) refl before (λ l is. entries_push done e l name row is named rowed)
    where
      at : (n : Option Components) (r : Option Row) (l : Option (List (Components × Row))) → entries_of format (members_view done) ≡ l → joined n r l ≡ Some es
          → ((l : List (Components × Row)) → entries_of format (members_view done) ≡ Some l → entries_of format (members_view (done ++ e ∷ [])) ≡ Some (l ++ (name, row) ∷ []))
          → joined n r (entries_of format (members_view (done ++ e ∷ []))) ≡ Some (es ++ (name, row) ∷ [])
      at None r l q b more = cc
      at (Some n) None l q b more = cc
      at (Some n) (Some r) None q b more = cc
      at (Some n) (Some r) (Some l) q b more = let same : (n, r) ∷ l ≡ es = cc in rw (more l q) (ap (λ m. Some (m ++ (name, row) ∷ [])) same)

  -- one more entry
  pub entries_more : (done : List Text) (e : Text) (es made : List (Entry Row)) (entry : Entry Row) → entries_of format (members_view done) ≡ Some (pairs es) → name_of (string_bytes e.0) ≡ Some entry.name.components → row_of format (view e.1) ≡ Some entry.value → made ≡ es ++ entry ∷ []
      → entries_of format (members_view (done ++ e ∷ [])) ≡ Some (pairs made)
  entries_more done e es made entry before named rowed is =
      entries_push done e (pairs es) entry.name.components entry.value before named rowed ∙ ap Some (sym (ap pairs is ∙ pairs-push es entry))

  -- no entries if a name, or a row, is wrong
  pub no_name : (done left : List Text) (e : Text) → name_of (string_bytes e.0) ≡ None → entries_of format (members_view (done ++ e ∷ left)) ≡ None
  no_name [] left e none = rw none refl
  no_name (d ∷ done) left e none = rw (no_name done left e none) (joined_none (name_of (string_bytes d.0)) (row_of format (view d.1)))

  pub no_row : (done left : List Text) (e : Text) → row_of format (view e.1) ≡ None → entries_of format (members_view (done ++ e ∷ left)) ≡ None
  no_row [] left e none = rw none (at (name_of (string_bytes e.0)))
    where
      at : (name : Option Components) → (name >>= λ n. None >>= λ r. entries_of format (members_view left) >>= λ es. Some ((n, r) ∷ es)) ≡ None
      at None = refl
      at (Some n) = refl
  no_row (d ∷ done) left e none = rw (no_row done left e none) (joined_none (name_of (string_bytes d.0)) (row_of format (view d.1)))

  -- every name among the entries is within the limits
  pub entries_fit : (ms : Members) (es : List (Components × Row)) → entries_of format ms ≡ Some es → AllNamesFit (from_entries es)
  unfolding AllNamesFit
  entries_fit no_members es is =
      let none : [] ≡ es = cc in
      subst (λ (l : List (Components × Row)). AllNamesFit (from_entries l)) none (λ name held. absurd (nothing name held))
    where
      nothing : (name : Components) → IsTrue (contains_key {X = Row} {R = name_cmp} empty name) → ⊥
      nothing name held = let e = ap is_some (get-empty {X = Row} name_cmp name) in cc
  entries_fit (member text d ms) es is = at (name_of text) refl (row_of format d) (entries_of format ms) refl is (λ l e. entries_fit ms l e)
    where
      at : (n : Option Components) → name_of text ≡ n → (r : Option Row) (l : Option (List (Components × Row))) → entries_of format ms ≡ l → joined n r l ≡ Some es
          → ((l : List (Components × Row)) → entries_of format ms ≡ Some l → AllNamesFit (from_entries l)) → AllNamesFit (from_entries es)
      at None p r l q e later = cc
      at (Some n) p None l q e later = cc
      at (Some n) p (Some r) None q e later = cc
      at (Some n) p (Some r) (Some l) q e later =
          let same : (n, r) ∷ l ≡ es = cc in
          subst (λ (k : List (Components × Row)). AllNamesFit (from_entries k)) same (names_fit-insert (from_entries l) n r (later l q) (text-name_of n text p).0)

  -- every name among the rows of a value is within the limits
  pub rows_fit : (d : Data) (rows : FinMap name_cmp Row) → rows_of format d ≡ Some rows → AllNamesFit rows
  rows_fit d rows is = at (look.get (codes "principals") d >>= as_object) is
    where
      given : (ms : Members) (l : Option (List (Components × Row))) → entries_of format ms ≡ l → (l >>= λ es. Some (from_entries es)) ≡ Some rows → AllNamesFit rows
      given ms None p e = cc
      given ms (Some es) p e = let same : from_entries es ≡ rows = cc in subst AllNamesFit same (entries_fit ms es p)

      at : (o : Option Members) → (o >>= entries_of format >>= λ es. Some (from_entries es)) ≡ Some rows → AllNamesFit rows
      at None e = cc
      at (Some ms) e = given ms (entries_of format ms) refl e
