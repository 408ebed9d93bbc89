-- The tokens of rows, one after another.
use Rattle.std.proofs.Common.{◌≡◌, ℕ, zero, suc, w64, to_z, of_z, Result, Ok, Err, OnOk, ◌+◌, ◌<◌, ◌≤◌, List, [], ◌∷◌, ◌++◌, length, codes, get_or, take, drop, map, Ordering, Less, Equal, Greater, String, Global, string_bytes, string_cmp, refl, sym, ap, subst, ◌∙◌, append_assoc, append-nil, arith}
use Rattle.std.proofs.Math.Seq.{take-suc}
use Rattle.std.proofs.lemmas.List.{take_all}
use Rattle.std.proofs.lemmas.Grind.{flat_map-append}
use Rattle.std.specs.Borrow.{Bor}
use Rattle.std.specs.BTreeMap.{insert_entry}
use Rattle.std.specs.Ordering.{match_ordering}
use Rattle.json.specs.Token.{Token}
use Rattle.json.specs.Tree as tree
use Rattle.json.specs.Written.{Written, Writes}
use Rattle.serde_json.specs.Data.{Data, array, object, Members, no_members, member, put}
use Rattle.serde_json.specs.View.{items_of}
use Rattle.serde_json.specs.Find.{of_integer}
use Rattle.serde_json.specs.Written.{number_text, items_outline, members_outline}
use Rattle.std.specs.Fmt.{signed_decimal}
use Rattle.enctypes.specs.declared.etype.Etype.{Etype}
use Rattle.enctypes.specs.declared.etype.Etype.TheVariants.{Aes128CtsHmacSha1_96, Aes256CtsHmacSha1_96, Aes128CtsHmacSha256_128, Aes256CtsHmacSha384_192}
use Rattle.enctypes.specs.Etype as etypes
use Rattle.principal_rows.specs.declared.row.KeyVersion.{KeyVersion}
use Rattle.principal_rows.specs.declared.row.Row.{Row}
use Rattle.text_fields.specs.declared.settings.Setting.{Setting}
use Rattle.text_fields.specs.Settings.{before_keys, settings_of}
use Rattle.principals_text.specs.RowWritten.{each_value, versions_value, setting_members, row_value}
use Rattle.principals_text.specs.Tokens.{IsLonger, data_tokens, member_tokens, setting_tokens, settings_tokens, values_tokens}
use Rattle.principals_text.specs.Tokens.{named_members, named_tokens}

-- ---- tokens after tokens

pub none_more : (a : Written) → IsLonger a a []
none_more a = record { tokens = sym (append-nil a.tokens); before = refl }

pub one_more : {E : Type 0} {x : Unit {0}} {a b : Written} {t : Token} → Writes {E = E} (Ok x) a b t → IsLonger a b (t ∷ [])
one_more w = record { tokens = w.ok; before = w.room.0 }

-- one more token, if the call succeeds
pub if_one_more : {E : Type 0} (r : Result (Unit {0}) E) (a b : Written) (t : Token) → Writes r a b t → OnOk r (IsLonger a b (t ∷ []))
if_one_more (Ok x) a b t w = one_more w
if_one_more (Err e) a b t w = tt

-- the text of a type's number
pub etype_text : (e : Etype) → signed_decimal (to_z w64 (of_z w64 (etypes.number e))) ≡ number_text (of_integer (etypes.number e))
etype_text Aes128CtsHmacSha1_96 = refl
etype_text Aes256CtsHmacSha1_96 = refl
etype_text Aes128CtsHmacSha256_128 = refl
etype_text Aes256CtsHmacSha384_192 = refl

-- one piece written after another
pub behind : (a b c : Written) (s t : List Token) → IsLonger a b s → IsLonger b c t → IsLonger a c (s ++ t)
behind a b c s t h k = record {
  tokens = k.tokens ∙ ap (λ l. l ++ t) h.tokens ∙ append_assoc a.tokens s t;
  before = k.before ∙ h.before;
}

pub chain : {a b c : Written} {s t : List Token} → IsLonger a b s → IsLonger b c t → IsLonger a c (s ++ t)
chain {a} {b} {c} {s} {t} h k = behind a b c s t h k

-- the final content of a new writer
pub from_nothing : (a b : Written) (ts : List Token) → a.before ≡ [] → a.tokens ≡ [] → IsLonger a b ts → (b.tokens ≡ ts) × (b.before ≡ [])
from_nothing a b ts empty none h = (h.tokens ∙ ap (λ l. l ++ ts) none, h.before ∙ empty)

-- ---- values in an array

module _ {A : Type 0} (f : A → Data) where
  next : (xs : List A) (i : ℕ) (x : A) → i < length xs → x ≡ get_or xs i x → values_tokens f (drop i xs) ≡ data_tokens (f x) ++ values_tokens f (drop (suc i) xs)
  next [] i x within is = absurd (omega (arith, within))
  next (y ∷ xs) zero x within is = ap (λ z. data_tokens (f z) ++ values_tokens f xs) (sym is)
  next (y ∷ xs) (suc i) x within is = next xs i x (omega (arith, within)) is

  none : (xs : List A) (i : ℕ) → length xs ≤ i → values_tokens f (drop i xs) ≡ []
  none [] zero past = refl
  none [] (suc i) past = refl
  none (x ∷ xs) zero past = absurd (omega (arith, past))
  none (x ∷ xs) (suc i) past = none xs i (omega (arith, past))

  pub value_more : (xs : List A) (i : ℕ) (x : A) (done : List Token) → i < length xs → x ≡ get_or xs i x → done ++ values_tokens f (drop i xs) ≡ values_tokens f xs
      → (done ++ data_tokens (f x)) ++ values_tokens f (drop (i + 1) xs) ≡ values_tokens f xs
  value_more xs i x done within is so_far =
      let step : suc i ≡ i + 1 = omega arith in
      subst (λ n. (done ++ data_tokens (f x)) ++ values_tokens f (drop n xs) ≡ values_tokens f xs) step
      (append_assoc done (data_tokens (f x)) (values_tokens f (drop (suc i) xs)) ∙ ap (λ l. done ++ l) (sym (next xs i x within is)) ∙ so_far)

  pub values_done : (xs : List A) (i : ℕ) (done : List Token) → length xs ≤ i → done ++ values_tokens f (drop i xs) ≡ values_tokens f xs → done ≡ values_tokens f xs
  values_done xs i done past so_far = sym (append-nil done) ∙ ap (λ l. done ++ l) (sym (none xs i past)) ∙ so_far

  pub array_end : (xs : List A) → values_tokens f xs ++ Token.end_array ∷ [] ≡ tree.items_tokens (items_outline (items_of (map f xs)))
  array_end [] = refl
  array_end (x ∷ xs) = append_assoc (data_tokens (f x)) (values_tokens f xs) (Token.end_array ∷ []) ∙ ap (λ l. data_tokens (f x) ++ l) (array_end xs)

  -- an array, from its first token to its last one
  pub array_written : (a b c d : Written) (xs : List A) (done : List Token) → IsLonger a b (Token.begin_array ∷ []) → IsLonger b c done → done ≡ values_tokens f xs → IsLonger c d (Token.end_array ∷ [])
      → IsLonger a d (data_tokens (array (each_value f xs)))
  array_written a b c d xs done begins holds is ends =
      let whole = behind a c d (Token.begin_array ∷ done) (Token.end_array ∷ []) (behind a b c (Token.begin_array ∷ []) done begins holds) ends in
      subst (IsLonger a d) (ap (λ l. Token.begin_array ∷ (l ++ Token.end_array ∷ [])) is ∙ ap (λ l. Token.begin_array ∷ l) (array_end xs)) whole

-- ---- a row

setting_end : (ss : List Setting) (more : Members)
    → settings_tokens ss ++ tree.members_tokens (members_outline more) ≡ tree.members_tokens (members_outline (setting_members ss more))
setting_end [] more = refl
setting_end (s ∷ ss) more =
    append_assoc (setting_tokens s) (settings_tokens ss) (tree.members_tokens (members_outline more))
    ∙ ap (λ l. setting_tokens s ++ l) (setting_end ss more)

-- one more element
pub one_more_of : {A : Type 0} (xs : List A) (i : ℕ) (x : A) → i < length xs → x ≡ get_or xs i x → take (i + 1) xs ≡ take i xs ++ x ∷ []
one_more_of xs i x within here =
    let step : suc i ≡ i + 1 = omega arith in
    ap (λ n. take n xs) (sym step) ∙ take-suc xs i x within ∙ ap (λ y. take i xs ++ y ∷ []) (sym here)

pub settings_more : (ss : List Setting) (s : Setting) → settings_tokens ss ++ setting_tokens s ≡ settings_tokens (ss ++ s ∷ [])
settings_more ss s =
    ap (λ l. settings_tokens ss ++ l) (sym (append-nil (setting_tokens s))) ∙ sym (flat_map-append setting_tokens ss (s ∷ []))

-- one more setting is written
pub setting_written : (a b c : Written) (ss : List Setting) (i : ℕ) (s : Setting) → i < length ss → s ≡ get_or ss i s
    → IsLonger a b (settings_tokens (take i ss)) → IsLonger b c (setting_tokens s) → IsLonger a c (settings_tokens (take (i + 1) ss))
setting_written a b c ss i s within here so_far next =
    subst (IsLonger a c) (settings_more (take i ss) s ∙ ap settings_tokens (sym (one_more_of ss i s within here))) (chain so_far next)

-- all are written
pub settings_written : (a b : Written) (ss : List Setting) (i : ℕ) → length ss ≤ i → IsLonger a b (settings_tokens (take i ss))
    → IsLonger a b (settings_tokens ss)
settings_written a b ss i past = subst (IsLonger a b) (ap settings_tokens (take_all i ss past))

-- the tokens of a row's object, with these settings before and after its keys
abbrev pub row_of_tokens : List Setting → List KeyVersion → List Setting → List Token
row_of_tokens before versions after =
    Token.begin_object ∷ (settings_tokens before
    ++ (Token.key (codes "keys") ∷ (data_tokens (versions_value versions) ++ (settings_tokens after ++ Token.end_object ∷ []))))

-- a row's tokens, from the first one to the last one
pub row_tokens : (row : Row) (before after : List Setting) → before ≡ take before_keys (settings_of row.policy)
    → after ≡ drop before_keys (settings_of row.policy) → row_of_tokens before row.versions after ≡ data_tokens (row_value row)
row_tokens row before after first last =
    let behind = setting_members (drop before_keys (settings_of row.policy)) no_members in
    ap (λ ss. row_of_tokens ss row.versions after) first
    ∙ ap (row_of_tokens (take before_keys (settings_of row.policy)) row.versions) last
    ∙ ap (λ l. Token.begin_object ∷ (settings_tokens (take before_keys (settings_of row.policy)) ++ (Token.key (codes "keys") ∷ (data_tokens (versions_value row.versions) ++ l))))
    (setting_end (drop before_keys (settings_of row.policy)) no_members)
    ∙ ap (λ l. Token.begin_object ∷ l) (setting_end (take before_keys (settings_of row.policy)) (member (codes "keys") (versions_value row.versions) behind))

pub row_written : (row : Row) (a b : Written) (before after : List Setting) → before ≡ take before_keys (settings_of row.policy)
    → after ≡ drop before_keys (settings_of row.policy) → IsLonger a b (row_of_tokens before row.versions after)
    → IsLonger a b (data_tokens (row_value row))
row_written row a b before after first last = subst (IsLonger a b) (row_tokens row before after first last)

-- ---- rows under their texts

abbrev pub Named : Type 0
Named = String Global × Bor Row

members-match_ordering : (o : Ordering) (a b c : List Named) → named_members (match_ordering o a b c) ≡ match_ordering o (named_members a) (named_members b) (named_members c)
members-match_ordering Less a b c = refl
members-match_ordering Equal a b c = refl
members-match_ordering Greater a b c = refl

pub named_members-insert : (es : List Named) (k : String Global) (row : Bor Row) → named_members (insert_entry string_cmp es k row) ≡ put (string_bytes k) (row_value row.now) (named_members es)
named_members-insert [] k row = refl
named_members-insert (e ∷ es) k row = members-match_ordering (string_cmp k e.0) _ _ _ ∙ rw (named_members-insert es k row) refl

pub named_more : (done : List Named) (e : Named) → named_tokens (done ++ e ∷ []) ≡ named_tokens done ++ member_tokens (string_bytes e.0) (row_value e.1.now)
named_more [] e = append-nil (member_tokens (string_bytes e.0) (row_value e.1.now))
named_more (d ∷ done) e =
    let first = member_tokens (string_bytes d.0) (row_value d.1.now) in
    ap (λ l. first ++ l) (named_more done e) ∙ sym (append_assoc first (named_tokens done) (member_tokens (string_bytes e.0) (row_value e.1.now)))

object_end : (es : List Named) → named_tokens es ++ Token.end_object ∷ [] ≡ tree.members_tokens (members_outline (named_members es))
object_end [] = refl
object_end (e ∷ es) = append_assoc (member_tokens (string_bytes e.0) (row_value e.1.now)) (named_tokens es) (Token.end_object ∷ []) ∙ ap (λ l. member_tokens (string_bytes e.0) (row_value e.1.now) ++ l) (object_end es)

-- an object with a member for each row, from its first token to its last one
pub rows_written : (a b c d : Written) (es : List Named) → IsLonger a b (Token.begin_object ∷ []) → IsLonger b c (named_tokens es) → IsLonger c d (Token.end_object ∷ []) → IsLonger a d (data_tokens (object (named_members es)))
rows_written a b c d es begins holds ends =
    let whole = behind a c d (Token.begin_object ∷ named_tokens es) (Token.end_object ∷ []) (behind a b c (Token.begin_object ∷ []) (named_tokens es) begins holds) ends in
    subst (IsLonger a d) (ap (λ l. Token.begin_object ∷ l) (object_end es)) whole
