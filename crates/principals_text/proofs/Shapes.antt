-- What is written nests no deeper than the reader allows.
use Rattle.std.proofs.Common.{◌≡◌, ℕ, ℤ, ◌≤◌, codes, List, [], ◌∷◌, map, take, drop, Option, Some, None}
use Rattle.std.proofs.Common.{Less, Equal, Greater, Ordering, refl, arith, nat_cmp}
use Rattle.std.specs.Ordering.{match_ordering}
use Rattle.std.specs.Cmp.Lexicographic.{slice_cmp}
use Rattle.std.specs.FinMap.{entries}
use Rattle.serde_json.specs.Data.{Data, Members, no_members, member, put, depth, items_depth, members_depth}
use Rattle.serde_json.specs.View.{items_of}
use Rattle.krb_fields.specs.Name.{Components}
use Rattle.krb_fields.specs.NameText.{text_of}
use Rattle.enctypes.specs.declared.key.Key.{Key}
use Rattle.principal_rows.specs.declared.row.KeyVersion.{KeyVersion}
use Rattle.principal_rows.specs.declared.row.Row.{Row}
use Rattle.text_fields.specs.declared.settings.Setting.{Setting}
use Rattle.text_fields.specs.declared.settings.Setting.TheVariants.{Flag, Life, Time}
use Rattle.text_fields.specs.Settings.{before_keys, settings_of}
use Rattle.principals.specs.Database.{Principals}
use Rattle.principals_text.specs.RowWritten.{time_value, key_value, version_value, versions_value, setting_value, setting_members}
use Rattle.principals_text.specs.RowWritten.{row_value}
use Rattle.principals_text.specs.Written.{with_rows, database_value}

-- ---- depth

flat-time : (time : Option ℤ) → depth (time_value time) ≡ 0
flat-time None = refl
flat-time (Some z) = refl

depth-items : {A : Type 0} (f : A → Data) (n : ℕ) → ((x : A) → depth (f x) ≤ n) → (xs : List A) → items_depth (items_of (map f xs)) ≤ n
depth-items f n each [] = omega arith
depth-items f n each (x ∷ xs) = omega (arith, each x, depth-items f n each xs)

depth-key : (key : Key) → depth (key_value key) ≤ 1
depth-key key = omega arith

depth-version : (v : KeyVersion) → depth (version_value v) ≤ 3
depth-version v = omega (arith, depth-items key_value 1 depth-key v.keys)

flat-setting : (s : Setting) → depth (setting_value s) ≡ 0
flat-setting (Flag field on) = refl
flat-setting (Life field life) = refl
flat-setting (Time field time) = flat-time time

depth-settings : (ss : List Setting) (more : Members) (n : ℕ) → members_depth more ≤ n
    → members_depth (setting_members ss more) ≤ n
depth-settings [] more n h = h
depth-settings (s ∷ ss) more n h = omega (arith, flat-setting s, depth-settings ss more n h)

pub depth-row : (row : Row) → depth (row_value row) ≤ 5
depth-row row =
    let before = take before_keys (settings_of row.policy) in
    let after = setting_members (drop before_keys (settings_of row.policy)) no_members in
    let inside : members_depth (member (codes "keys") (versions_value row.versions) after) ≤ 4 =
    omega (arith, depth-items version_value 3 depth-version row.versions, depth-settings (drop before_keys (settings_of row.policy)) no_members 4 (omega arith)) in
    omega (arith, depth-settings before (member (codes "keys") (versions_value row.versions) after) 4 inside)

depth-put : (k : List ℕ) (d : Data) (ms : Members) (n : ℕ) → depth d ≤ n → members_depth ms ≤ n → members_depth (put k d ms) ≤ n
depth-put k d no_members n p q = omega (arith, p)
depth-put k d (member l e ms) n p q = at (slice_cmp nat_cmp k l) (depth-put k d ms n p (omega (arith, q)))
  where
    at : (o : Ordering) → members_depth (put k d ms) ≤ n → members_depth (match_ordering o (member k d (member l e ms)) (member l d ms) (member l e (put k d ms))) ≤ n
    at Less later = omega (arith, p, q)
    at Equal later = omega (arith, p, q)
    at Greater later = omega (arith, q, later)

depth-rows : (ms : Members) (es : List (Components × Row)) → members_depth ms ≤ 5 → members_depth (with_rows ms es) ≤ 5
depth-rows ms [] p = p
depth-rows ms (e ∷ es) p = depth-rows (put (text_of e.0) (row_value e.1) ms) es (depth-put (text_of e.0) (row_value e.1) ms 5 (depth-row e.1) p)

pub nests : (p : Principals) → depth (database_value p) ≤ 127
nests p = omega (arith, depth-rows no_members (entries p.rows) (omega arith))
