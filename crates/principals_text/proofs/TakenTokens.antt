-- The tokens that are taken from a reader, one after another.
use Rattle.std.proofs.Common.{◌≡◌, ℕ, ◌≤◌, ◌<◌, ◌+◌, codes, get_or, List, [], ◌∷◌, ◌++◌, length, map, take, drop, Some, option_map, sym, ap, ◌∙◌}
use Rattle.std.proofs.Common.{append_assoc, append-nil, length-append, arith}
use Rattle.std.proofs.Math.Seq.{take-append_seam, drop-append_seam}
use Rattle.std.proofs.lemmas.List.{length-map, map-append}
use Rattle.std.proofs.lemmas.List.Sums.{fold-append}
use Rattle.json.specs.Token.{Token}
use Rattle.json.specs.Json.{after_end_array}
use Rattle.json.proofs.Grammar.{closed_array}
use Rattle.json.proofs.Printed.Trees.{value-json_tokens}
use Rattle.serde_json.specs.Data.{Data, null, array, boolean, number, string, object, unsigned, depth}
use Rattle.serde_json.specs.Read.{of_json, converted}
use Rattle.serde_json.specs.Find.{of_integer}
use Rattle.serde_json.specs.Written.{outline}
use Rattle.hex.specs.Hex.{encode_lower}
use Rattle.enctypes.specs.declared.etype.Etype.{Etype}
use Rattle.enctypes.specs.declared.key.Key.{Key}
use Rattle.enctypes.specs.Etype as etypes
use Rattle.principal_rows.specs.declared.policy.Policy.{Policy}
use Rattle.principal_rows.specs.declared.row.KeyVersion.{KeyVersion}
use Rattle.text_fields.specs.declared.settings.Setting.{Setting}
use Rattle.text_fields.specs.SettingLaws.{made}
use Rattle.text_fields.specs.Settings.{before_keys, place, settings_of, with_setting, with_settings}
use Rattle.principals_text.specs.Ahead.{value_at}
use Rattle.principals_text.specs.RowWritten.{each_value, key_value, keys_value, version_value, versions_value, row_value}
use Rattle.principals_text.specs.Tokens.{ReadsBack, data_tokens, member_tokens, setting_tokens, settings_tokens, values_tokens}
use Rattle.principals_text.proofs.Kept.{depth-outline}
use Rattle.principals_text.specs.Taken.{AreTaken}
use Rattle.principals_text.proofs.RowTokens.{array_end, one_more_of, settings_more, row_tokens}

-- tokens taken after other tokens
pub taken : (a b c s t : List Token) → a ≡ s ++ b → b ≡ t ++ c → a ≡ (s ++ t) ++ c
taken a b c s t h k = h ∙ ap (λ l. s ++ l) k ∙ sym (append_assoc s t c)

-- ---- values in an array

module _ {A : Type 0} (f : A → Data) where
  pub values_push : (xs : List A) (x : A) → values_tokens f (xs ++ x ∷ []) ≡ values_tokens f xs ++ data_tokens (f x)
  values_push [] x = append-nil (data_tokens (f x))
  values_push (y ∷ xs) x = ap (λ l. data_tokens (f y) ++ l) (values_push xs x) ∙ sym (append_assoc (data_tokens (f y)) (values_tokens f xs) (data_tokens (f x)))

  -- one more value is taken
  pub value_taken : (a b c : List Token) (xs made : List A) (x : A) → a ≡ values_tokens f xs ++ b → b ≡ data_tokens (f x) ++ c → made ≡ xs ++ x ∷ [] → a ≡ values_tokens f made ++ c
  value_taken a b c xs made x before here is =
      taken a b c (values_tokens f xs) (data_tokens (f x)) before here ∙ ap (λ l. l ++ c) (sym (ap (values_tokens f) is ∙ values_push xs x))

  -- an array, from its first token to its last one
  pub array_taken : (a b c d : List Token) (xs : List A) → a ≡ Token.begin_array ∷ b → b ≡ values_tokens f xs ++ c → after_end_array c ≡ Some d → a ≡ data_tokens (array (each_value f xs)) ++ d
  array_taken a b c d xs begins holds ends =
      begins ∙ ap (λ l. Token.begin_array ∷ l) (taken b c d (values_tokens f xs) (Token.end_array ∷ []) holds (closed_array c d ends) ∙ ap (λ l. l ++ d) (array_end f xs))

-- ---- keys, versions and rows

-- a key, from its first token to its last one
pub key_taken : (a0 a1 a2 a3 a4 a5 : List Token) (etype : Etype) (octets : List ℕ)
    → a0 ≡ Token.begin_object ∷ a1
    → a1 ≡ member_tokens (codes "etype") (number (of_integer (etypes.number etype))) ++ a2
    → a2 ≡ Token.key (codes "key") ∷ a3
    → a3 ≡ Token.string (encode_lower octets) ∷ a4
    → a4 ≡ Token.end_object ∷ a5
    → a0 ≡ data_tokens (key_value (record { etype = etype; bytes = octets })) ++ a5
key_taken a0 a1 a2 a3 a4 a5 etype octets e0 e1 e2 e3 e4 =
    let t3 : a3 ≡ ((Token.string (encode_lower octets) ∷ []) ++ ((Token.end_object ∷ []))) ++ a5 = taken a3 a4 a5 (Token.string (encode_lower octets) ∷ []) ((Token.end_object ∷ [])) e3 e4 in
    let t2 : a2 ≡ ((Token.key (codes "key") ∷ []) ++ ((Token.string (encode_lower octets) ∷ []) ++ ((Token.end_object ∷ [])))) ++ a5 = taken a2 a3 a5 (Token.key (codes "key") ∷ []) ((Token.string (encode_lower octets) ∷ []) ++ ((Token.end_object ∷ []))) e2 t3 in
    let t1 : a1 ≡ ((member_tokens (codes "etype") (number (of_integer (etypes.number etype)))) ++ ((Token.key (codes "key") ∷ []) ++ ((Token.string (encode_lower octets) ∷ []) ++ ((Token.end_object ∷ []))))) ++ a5 = taken a1 a2 a5 (member_tokens (codes "etype") (number (of_integer (etypes.number etype)))) ((Token.key (codes "key") ∷ []) ++ ((Token.string (encode_lower octets) ∷ []) ++ ((Token.end_object ∷ [])))) e1 t2 in
    taken a0 a1 a5 (Token.begin_object ∷ []) ((member_tokens (codes "etype") (number (of_integer (etypes.number etype)))) ++ ((Token.key (codes "key") ∷ []) ++ ((Token.string (encode_lower octets) ∷ []) ++ ((Token.end_object ∷ []))))) e0 t1

-- a key version
pub version_taken : (a0 a1 a2 a3 a4 a5 : List Token) (keys : List Key) (kvno : ℕ)
    → a0 ≡ Token.begin_object ∷ a1
    → a1 ≡ Token.key (codes "keys") ∷ a2
    → a2 ≡ data_tokens (keys_value keys) ++ a3
    → a3 ≡ member_tokens (codes "version") (number (unsigned kvno)) ++ a4
    → a4 ≡ Token.end_object ∷ a5
    → a0 ≡ data_tokens (version_value (record { number = kvno; keys = keys })) ++ a5
version_taken a0 a1 a2 a3 a4 a5 keys kvno e0 e1 e2 e3 e4 =
    let t3 : a3 ≡ ((member_tokens (codes "version") (number (unsigned kvno))) ++ ((Token.end_object ∷ []))) ++ a5 = taken a3 a4 a5 (member_tokens (codes "version") (number (unsigned kvno))) ((Token.end_object ∷ [])) e3 e4 in
    let t2 : a2 ≡ ((data_tokens (keys_value keys)) ++ ((member_tokens (codes "version") (number (unsigned kvno))) ++ ((Token.end_object ∷ [])))) ++ a5 = taken a2 a3 a5 (data_tokens (keys_value keys)) ((member_tokens (codes "version") (number (unsigned kvno))) ++ ((Token.end_object ∷ []))) e2 t3 in
    let t1 : a1 ≡ ((Token.key (codes "keys") ∷ []) ++ ((data_tokens (keys_value keys)) ++ ((member_tokens (codes "version") (number (unsigned kvno))) ++ ((Token.end_object ∷ []))))) ++ a5 = taken a1 a2 a5 (Token.key (codes "keys") ∷ []) ((data_tokens (keys_value keys)) ++ ((member_tokens (codes "version") (number (unsigned kvno))) ++ ((Token.end_object ∷ [])))) e1 t2 in
    taken a0 a1 a5 (Token.begin_object ∷ []) ((Token.key (codes "keys") ∷ []) ++ ((data_tokens (keys_value keys)) ++ ((member_tokens (codes "version") (number (unsigned kvno))) ++ ((Token.end_object ∷ []))))) e0 t1

-- one more setting is taken
pub setting_taken : (fields : List Setting) (i : ℕ) (field found : Setting) (p q r : Policy) (a b c : List Token)
    → i < length fields → field ≡ get_or fields i field → AreTaken (take i fields) p a q b
    → b ≡ setting_tokens found ++ c → place found ≡ place field → r ≡ with_setting found q
    → AreTaken (take (i + 1) fields) p a r c
setting_taken fields i field found p q r a b c within here so_far next alike made = record {
  found = so_far.found ++ found ∷ [];
  alike = map-append place so_far.found (found ∷ [])
      ∙ ap (λ l. l ++ place found ∷ []) so_far.alike
      ∙ ap (λ n. map place (take i fields) ++ n ∷ []) alike
      ∙ sym (map-append place (take i fields) (field ∷ []))
      ∙ ap (map place) (sym (one_more_of fields i field within here));
  tokens = taken a b c (settings_tokens so_far.found) (setting_tokens found) so_far.tokens next
      ∙ ap (λ l. l ++ c) (settings_more so_far.found found);
  set = made ∙ ap (with_setting found) so_far.set ∙ sym (fold-append (λ m s. with_setting s m) p so_far.found (found ∷ []));
}

-- a row: the settings before its keys, the keys, and the settings after them
pub row_taken : (a0 a1 a2 a3 a4 a5 a6 : List Token) (fields others : List Setting) (versions : List KeyVersion) (p0 p1 p2 : Policy)
    → fields ≡ take before_keys (settings_of p0)
    → others ≡ drop before_keys (settings_of p0)
    → a0 ≡ Token.begin_object ∷ a1
    → AreTaken fields p0 a1 p1 a2
    → a2 ≡ Token.key (codes "keys") ∷ a3
    → a3 ≡ data_tokens (versions_value versions) ++ a4
    → AreTaken others p1 a4 p2 a5
    → a5 ≡ Token.end_object ∷ a6
    → a0 ≡ data_tokens (row_value (record { versions = versions; policy = p2 })) ++ a6
row_taken a0 a1 a2 a3 a4 a5 a6 fields others versions p0 p1 p2 are_fields are_others opens before named keys after ends =
    let all = before.found ++ after.found in
    let first : map place before.found ≡ map place (take before_keys (settings_of p0)) = before.alike ∙ ap (map place) are_fields in
    let second : map place after.found ≡ map place (drop before_keys (settings_of p0)) = after.alike ∙ ap (map place) are_others in
    let alike : map place all ≡ map place (settings_of p0) =
    map-append place before.found after.found ∙ ap (λ l. l ++ map place after.found) first
    ∙ ap (λ l. map place (take before_keys (settings_of p0)) ++ l) second in
    let set : p2 ≡ with_settings all p0 =
    after.set ∙ ap (with_settings after.found) before.set ∙ sym (fold-append (λ m s. with_setting s m) p0 before.found after.found) in
    let settings : settings_of p2 ≡ all = ap settings_of set ∙ made all p0 alike in
    let many : length before.found ≡ before_keys = sym (length-map before.found place) ∙ ap length first in
    let these : take before_keys (settings_of p2) ≡ before.found =
    ap (take before_keys) settings ∙ ap (λ n. take n all) (sym many) ∙ take-append_seam before.found after.found in
    let those : drop before_keys (settings_of p2) ≡ after.found =
    ap (drop before_keys) settings ∙ ap (λ n. drop n all) (sym many) ∙ drop-append_seam before.found after.found in
    let behind = settings_tokens after.found ++ Token.end_object ∷ [] in
    let t4 = taken a4 a5 a6 (settings_tokens after.found) (Token.end_object ∷ []) after.tokens ends in
    let t3 = taken a3 a4 a6 (data_tokens (versions_value versions)) behind keys t4 in
    let t2 = taken a2 a3 a6 (Token.key (codes "keys") ∷ []) (data_tokens (versions_value versions) ++ behind) named t3 in
    let t1 = taken a1 a2 a6 (settings_tokens before.found) (Token.key (codes "keys") ∷ (data_tokens (versions_value versions) ++ behind)) before.tokens t2 in
    opens ∙ ap (λ l. Token.begin_object ∷ l) t1
    ∙ ap (λ l. l ++ a6) (row_tokens (record { versions = versions; policy = p2 }) before.found after.found (sym these) (sym those))

some_token : (d : Data) → 0 < length (data_tokens d)
some_token null = omega arith
some_token (boolean x) = omega arith
some_token (number n) = omega arith
some_token (string s) = omega arith
some_token (array ds) = omega arith
some_token (object ms) = omega arith

-- taking a value leaves fewer tokens
pub shorter : (d : Data) (a b : List Token) → a ≡ data_tokens d ++ b → length b < length a
shorter d a b is = omega (arith, some_token d, ap length is, length-append (data_tokens d) b)

-- the value that comes next, if its tokens do
pub value_next : (n : ℕ) (d : Data) (a r : List Token) → ReadsBack d → depth d ≤ n → a ≡ data_tokens d ++ r → value_at n a ≡ Some (d, r)
unfolding ReadsBack
value_next n d a r kept nests is =
    ap (value_at n) is ∙ ap (converted of_json) (value-json_tokens (outline d) n r (omega (arith, depth-outline d, nests))) ∙ ap (option_map (λ b. (b, r))) kept
