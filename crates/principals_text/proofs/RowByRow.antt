-- Reading a text row by row.
use Rattle.std.proofs.Common.{◌≡◌, ℕ, ◌-◌, ◌<◌, List, [], ◌∷◌, ◌++◌, length, reverse, Option, Some, None, Result, Ok, Err, MatchResult, is_ok, if◌then◌else◌, Bor, option_map, IsTrue, All, refl, sym, ap, subst, ◌∙◌, arith, codes}
use Rattle.std.specs.Result.{result_ok}
use Rattle.std.proofs.lemmas.List.{reverse-append}
use Rattle.std.proofs.lemmas.List.Sorted.{All-permutation, IsPermutation-reverse}
use Rattle.std.specs.FinMap.{FinMap, contains_key, from_entries}
use Rattle.json.specs.Token.{Token}
use Rattle.json.specs.Lex.{tokens}
use Rattle.json.specs.Json.{parse_map, read_key}
use Rattle.json.proofs.Grammar.{read_key-shorter, value_is}
use Rattle.serde_json.specs.Data.{Data, string, number, object, unsigned, Members, no_members, put}
use Rattle.serde_json.specs.Read.{of_json, converted, number_of}
use Rattle.serde_json.proofs.OnLiterals.{serde_json_on_literals}
use Rattle.krb_fields.specs.Name.{name_cmp}
use Rattle.principal_rows.specs.NameMap.{pairs}
use Rattle.principal_rows.specs.Row.{IsRow}
use Rattle.principal_rows.specs.declared.name_map.Entry.{Entry}
use Rattle.principal_rows.specs.declared.row.Row.{Row}
use Rattle.text_fields.specs.Settings.{newest_version, newest_version_text}
use Rattle.principals_text.specs.Format.{newest}
use Rattle.principals_text.specs.Ahead.{value_at, members_at, rows_in, text_value, HoldsParts}
use Rattle.principals.specs.Database.{AreRows}
use Rattle.krb_fields.specs.Granting.{tgs_principal}
use Rattle.principals_text.specs.NameOf.{component_of, name_of}
use Rattle.principals_text.specs.RowValue.{row_of}
use Rattle.principals_text.specs.Value.{database_or, text_database}
use Rattle.principals_text.proofs.DatabaseReadBack.{put_row}
use Rattle.principals_text.proofs.RowEntries.{rows_fit-entries}
use Rattle.principals_text.proofs.NextMembers.{object_next, member_next, no_member_next, whole_text}

-- what a call returns, if it returns anything
pub key_is : {E : Type 0} (r : Result (Option (Bor (List ℕ))) E) (ts s : List Token) (k : Option (Bor (List ℕ))) → MatchResult r (λ o. read_key ts ≡ Some (option_map (λ t. t.now) o, s)) (λ _. read_key ts ≡ None) → Some k ≡ result_ok r
    → read_key ts ≡ Some (option_map (λ t. t.now) k, s)
key_is (Ok x) ts s k value is = let same : k ≡ x = cc in subst (λ (o : Option (Bor (List ℕ))). read_key ts ≡ Some (option_map (λ (t : Bor (List ℕ)). t.now) o, s)) (sym same) value
key_is (Err e) ts s k value is = cc

pub if_ok : {A B E : Type 0} (r : Result A E) (x : A) (made pushed kept : List B) → made ≡ (if is_ok r then pushed else kept) → Some x ≡ result_ok r → made ≡ pushed
if_ok (Ok y) x made pushed kept held is = held
if_ok (Err e) x made pushed kept held is = cc

-- one more row
pub row_more : (text : List ℕ) (d : Data) (entry : Entry Row) (found : Members) (es made : List (Entry Row)) → name_of text ≡ Some entry.name.components → row_of newest d ≡ Some entry.value
    → rows_in found ≡ Some (from_entries (pairs (reverse es))) → made ≡ es ++ entry ∷ [] → rows_in (put text d found) ≡ Some (from_entries (pairs (reverse made)))
row_more text d entry found es made named rowed before is =
    put_row text d entry.name.components entry.value named rowed found (from_entries (pairs (reverse es))) before
    ∙ ap (λ l. Some (from_entries (pairs l))) (sym (ap reverse is ∙ reverse-append es (entry ∷ [])))

string_next : (depth : ℕ) (s : List ℕ) (r : List Token) → value_at depth (Token.string s ∷ r) ≡ Some (string s, r)
string_next depth s r = ap (converted of_json) (value_is depth (Token.string s ∷ r))

newest_is : number_of newest_version_text ≡ Some (unsigned newest_version)
unfolding serde_json_on_literals
newest_is = refl

number_next : (depth : ℕ) (r : List Token) → value_at depth (Token.number newest_version_text ∷ r) ≡ Some (number (unsigned newest_version), r)
number_next depth r = ap (converted of_json) (value_is depth (Token.number newest_version_text ∷ r)) ∙ rw newest_is refl

-- the parts of a text, one after another
pub parts_hold : (ts t1 s1 t2 r1 s2 r2 s3 r3 : List Token) (rows : Members) (text realm : List ℕ) (es : List (Entry Row))
    → ts ≡ Token.begin_object ∷ t1
    → read_key t1 ≡ Some (Some (codes "principals"), s1)
    → s1 ≡ Token.begin_object ∷ t2
    → members_at 125 no_members (length t2) t2 ≡ Some (rows, r1) → length r1 < length t2
    → read_key r1 ≡ Some (Some (codes "realm"), s2)
    → s2 ≡ Token.string text ∷ r2
    → read_key r2 ≡ Some (Some (codes "version"), s3)
    → s3 ≡ Token.number newest_version_text ∷ r3
    → read_key r3 ≡ Some (None, [])
    → rows_in rows ≡ Some (from_entries (pairs (reverse es)))
    → component_of text ≡ Some realm
    → HoldsParts ts realm es
parts_hold ts t1 s1 t2 r1 s2 r2 s3 r3 rows text realm es opens first begun rows_next less second realm_next third version_next over are is =
    let n = length t1 in
    let rows_value : value_at 126 s1 ≡ Some (object rows, r1) = ap (value_at 126) begun ∙ object_next 126 t2 (omega arith) ∙ ap (parse_map object) rows_next in
    let realm_value : value_at 126 s2 ≡ Some (string text, r2) = ap (value_at 126) realm_next ∙ string_next 126 text r2 in
    let version_value : value_at 126 s3 ≡ Some (number (unsigned newest_version), r3) = ap (value_at 126) version_next ∙ number_next 126 r3 in
    let a = read_key-shorter t1 (Some (codes "principals")) s1 first in
    let b : length t2 < length s1 = omega (arith, ap length begun) in
    let c = read_key-shorter r1 (Some (codes "realm")) s2 second in
    let d : length r2 < length s2 = omega (arith, ap length realm_next) in
    let e = read_key-shorter r2 (Some (codes "version")) s3 third in
    let f : length r3 < length s3 = omega (arith, ap length version_next) in
    let with_rows : members_at 126 no_members n t1 ≡ members_at 126 (put (codes "principals") (object rows) no_members) (n - 1) r1 =
    member_next 126 no_members n (codes "principals") t1 s1 r1 (object rows) (omega (arith, a)) first rows_value in
    let with_realm = member_next 126 (put (codes "principals") (object rows) no_members) (n - 1) (codes "realm") r1 s2 r2 (string text) (omega (arith, a, b, less, c)) second realm_value in
    let with_version = member_next 126 (put (codes "realm") (string text) (put (codes "principals") (object rows) no_members)) (n - 1 - 1) (codes "version") r2 s3 r3 (number (unsigned newest_version)) (omega (arith, a, b, less, c, d, e)) third version_value in
    let ended = no_member_next 126 (put (codes "version") (number (unsigned newest_version)) (put (codes "realm") (string text) (put (codes "principals") (object rows) no_members))) (n - 1 - 1 - 1) r3 [] (omega (arith, a, b, less, c, d, e, f)) over in (
      rows,
      text,
      ap (value_at 127) opens ∙ object_next 127 t1 (omega arith) ∙ ap (parse_map object) (with_rows ∙ with_realm ∙ with_version ∙ ended),
      are,
      is,
    )

-- the database of a text with these parts
pub database_held : (text realm : List ℕ) (es : List (Entry Row)) (rows : FinMap name_cmp Row) → HoldsParts (tokens text) realm es → rows ≡ from_entries (pairs (reverse es))
    → IsTrue (contains_key rows (tgs_principal realm)) → text_database text ≡ Ok (record { realm = realm; rows = rows })
database_held text realm es rows held are grants =
    let is : rows_in held.0 ≡ Some rows = held.3 ∙ ap Some (sym are) in
    let named = held.4 in
    ap database_or (whole_text text (text_value held.0 held.1) held.2) ∙ rw (named, is, grants) refl

-- the rows of reversed entries are rows
pub turned_rows : (es : List (Entry Row)) (rows : FinMap name_cmp Row) → All (λ e. IsRow e.value) es → rows ≡ from_entries (pairs (reverse es)) → AreRows rows
turned_rows es rows fit are = rows_fit-entries (reverse es) rows (All-permutation (λ (e : Entry Row). IsRow e.value) es (reverse es) (IsPermutation-reverse es) fit) are
