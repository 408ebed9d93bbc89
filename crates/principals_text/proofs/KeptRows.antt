-- What is written for rows, and for a database, is read as that value.
use Rattle.std.proofs.Common.{◌≡◌, ℕ, ℤ, pos, negsuc, ◌<◌, ◌≤◌, ◌^◌, codes, List, [], ◌∷◌, Option, Some, None, option_map, take, drop, refl, ap, subst, ◌∙◌, arith, All, map}
use Rattle.std.proofs.lemmas.List.Elements.{All-head, All-tail, All-take, All-drop}
use Rattle.std.specs.FinMap.{entries}
use Rattle.serde_json.specs.Data.{Data, number, unsigned, array, Members, no_members, member, put, depth}
use Rattle.serde_json.specs.Find.{of_integer}
use Rattle.json.specs.Lex.{tokens}
use Rattle.serde_json.specs.Read.{read, of_items}
use Rattle.serde_json.proofs.Numbers.{number_of-decimal}
use Rattle.krb_fields.specs.Name.{Components}
use Rattle.krb_fields.specs.NameText.{text_of}
use Rattle.enctypes.specs.declared.etype.Etype.{Etype}
use Rattle.enctypes.specs.declared.etype.Etype.TheVariants.{Aes128CtsHmacSha1_96, Aes256CtsHmacSha1_96, Aes128CtsHmacSha256_128, Aes256CtsHmacSha384_192}
use Rattle.enctypes.specs.declared.key.Key.{Key}
use Rattle.enctypes.specs.Etype as etypes
use Rattle.principal_rows.specs.NameMap.{pairs}
use Rattle.principal_rows.specs.Versions.{IsVersions}
use Rattle.principal_rows.specs.declared.name_map.Entry.{Entry}
use Rattle.principal_rows.specs.declared.row.KeyVersion.{KeyVersion}
use Rattle.principal_rows.specs.declared.row.Row.{Row}
use Rattle.principals.specs.Database.{Principals}
use Rattle.text_fields.specs.declared.settings.Setting.{Setting}
use Rattle.text_fields.specs.declared.settings.Setting.TheVariants.{Flag, Life, Time}
use Rattle.text_fields.specs.Settings.{before_keys, newest_version, settings_of}
use Rattle.principals_text.specs.ReadBack.{IsTime, IsFitting}
use Rattle.principals_text.specs.RowWritten.{time_value, key_value, keys_value, version_value, versions_value}
use Rattle.principals_text.specs.RowWritten.{setting_value, setting_members, row_members, row_value}
use Rattle.principals_text.specs.Tokens.{ReadsBack, data_tokens}
use Rattle.principals_text.specs.Written.{with_rows, database_value}
use Rattle.serde_json.specs.Written.{outline, items_outline}
use Rattle.serde_json.specs.View.{items_of}
use Rattle.principals_text.proofs.NextMembers.{read-tokens}
use Rattle.principals_text.proofs.Kept.{depth-outline, items_kept, object_kept, AreRising, AreKept, rising_if, rising-put, kept-put}

-- a text with the tokens that are written for a value is read as the value
pub kept_text : (d : Data) (text : List ℕ) → ReadsBack d → depth d ≤ 127 → tokens text ≡ data_tokens d → read text ≡ Some d
unfolding ReadsBack
kept_text d text kept shallow is = read-tokens (outline d) text (omega (arith, depth-outline d, shallow)) is ∙ kept

number_kept : (n : ℕ) → n < 2 ^ 64 → ReadsBack (number (unsigned n))
unfolding ReadsBack
number_kept n h = ap (option_map number) (number_of-decimal n h)

time_kept : (time : Option ℤ) → IsTime time → ReadsBack (time_value time)
unfolding ReadsBack
time_kept None is = refl
time_kept (Some (pos n)) is = number_kept n (grind (arith, is))
time_kept (Some (negsuc n)) is = absurd (grind (arith, is))

etype_kept : (e : Etype) → ReadsBack (number (of_integer (etypes.number e)))
etype_kept Aes128CtsHmacSha1_96 = number_kept 17 (omega arith)
etype_kept Aes256CtsHmacSha1_96 = number_kept 18 (omega arith)
etype_kept Aes128CtsHmacSha256_128 = number_kept 19 (omega arith)
etype_kept Aes256CtsHmacSha384_192 = number_kept 20 (omega arith)

key_kept : (key : Key) → ReadsBack (key_value key)
unfolding ReadsBack
key_kept key = object_kept _ (refl, (tt, tt)) (etype_kept key.etype, (refl, tt))

keys_kept : (keys : List Key) → ReadsBack (keys_value keys)
unfolding ReadsBack
keys_kept keys = ap (option_map array) (items_kept key_value keys key_kept)

version_kept : (v : KeyVersion) → v.number ≤ 4294967295 → ReadsBack (version_value v)
unfolding ReadsBack
version_kept v h = object_kept _ (refl, (tt, tt)) (keys_kept v.keys, (number_kept v.number (omega (arith, h)), tt))

versions_items : (vs : List KeyVersion) → All (λ v. v.number ≤ 4294967295) vs → of_items (items_outline (items_of (map version_value vs))) ≡ Some (items_of (map version_value vs))
unfolding ReadsBack
versions_items [] all = refl
versions_items (v ∷ vs) all =
    rw (version_kept v (All-head (λ (w : KeyVersion). w.number ≤ 4294967295) v vs all), versions_items vs (All-tail (λ (w : KeyVersion). w.number ≤ 4294967295) v vs all)) refl

versions_kept : (vs : List KeyVersion) → IsVersions vs → ReadsBack (versions_value vs)
unfolding ReadsBack
versions_kept vs is = ap (option_map array) (versions_items vs is.bounded)

setting_kept : (s : Setting) → IsFitting s → ReadsBack (setting_value s)
unfolding ReadsBack
setting_kept (Flag field on) fits = refl
setting_kept (Life field life) fits = number_kept life (omega (arith, fits))
setting_kept (Time field time) fits = time_kept time fits

settings_kept : (ss : List Setting) (more : Members) → All IsFitting ss → AreKept more → AreKept (setting_members ss more)
settings_kept [] more fits kept = kept
settings_kept (s ∷ ss) more fits kept =
    (setting_kept s (All-head IsFitting s ss fits), settings_kept ss more (All-tail IsFitting s ss fits) kept)

pub row_kept : (row : Row) → IsVersions row.versions → All IsFitting (settings_of row.policy) → ReadsBack (row_value row)
row_kept row versions fits =
    let settings = settings_of row.policy in
    let after = setting_members (drop before_keys settings) no_members in
    let after_kept : AreKept after =
    settings_kept (drop before_keys settings) no_members (All-drop IsFitting before_keys settings fits) tt in
    let keys_on : AreKept (member (codes "keys") (versions_value row.versions) after) = (versions_kept row.versions versions, after_kept) in
    object_kept (row_members row) (rising_if (row_members row) refl)
    (settings_kept (take before_keys settings) (member (codes "keys") (versions_value row.versions) after)
    (All-take IsFitting before_keys settings fits) keys_on)

-- ---- all rows

abbrev AreRowsKept : List (Components × Row) → Type 0
AreRowsKept [] = Unit {0}
AreRowsKept (e ∷ es) = ReadsBack (row_value e.1) × AreRowsKept es

rows_kept : (ms : Members) (es : List (Components × Row)) → AreRising ms → AreKept ms → AreRowsKept es → AreRising (with_rows ms es) × AreKept (with_rows ms es)
rows_kept ms [] r a h = (r, a)
rows_kept ms (e ∷ es) r a h = rows_kept (put (text_of e.0) (row_value e.1) ms) es (rising-put (text_of e.0) (row_value e.1) ms r) (kept-put (text_of e.0) (row_value e.1) ms h.0 a) h.1

each_kept : (es : List (Entry Row)) → All (λ e. ReadsBack (row_value e.value)) es → AreRowsKept (pairs es)
each_kept [] all = tt
each_kept (e ∷ es) all = (
  All-head (λ (x : Entry Row). ReadsBack (row_value x.value)) e es all,
  each_kept es (All-tail (λ (x : Entry Row). ReadsBack (row_value x.value)) e es all),
)

pub database_kept : (p : Principals) (es : List (Entry Row)) → pairs es ≡ entries p.rows → All (λ e. ReadsBack (row_value e.value)) es → ReadsBack (database_value p)
unfolding ReadsBack
database_kept p es are all =
    let rows = rows_kept no_members (entries p.rows) tt tt (subst AreRowsKept are (each_kept es all)) in
    object_kept _ (refl, (refl, (tt, tt))) (object_kept (with_rows no_members (entries p.rows)) rows.0 rows.1, (refl, (number_kept newest_version (omega arith), tt)))
