-- What is written for a row is read as that row.
use Rattle.std.proofs.Common.{◌≡◌, ℕ, ℤ, pos, negsuc, suc, ◌+◌, ◌<◌, ◌≤◌, get_or, inl, inr, ◌==◌, ◌&&◌, nat_lt, nat_le, Bool, true, false, List, [], ◌∷◌, length, map, Option, Some, None, refl, ◌∙◌, arith, All, AllPairs}
use Rattle.std.specs.List.{AllWithin}
use Rattle.std.proofs.lemmas.Bool.{cases_lt}
use Rattle.std.proofs.lemmas.List.{get_or_past}
use Rattle.std.proofs.lemmas.List.Elements.{All-head, All-tail, AllWithin-more, AllWithin-upto, All-from_all_within, at_read}
use Rattle.std.proofs.lemmas.Bool.Decides.{nat_tests}
use Rattle.hex.specs.Hex as hex
use Rattle.hex.proofs.HexLemmas.{decode_sized-encode_lower}
use Rattle.serde_json.specs.Data.{Data}
use Rattle.serde_json.specs.View.{items_of}
use Rattle.enctypes.specs.declared.etype.Etype.{Etype}
use Rattle.enctypes.specs.declared.etype.Etype.TheVariants.{Aes128CtsHmacSha1_96, Aes256CtsHmacSha1_96, Aes128CtsHmacSha256_128, Aes256CtsHmacSha384_192}
use Rattle.enctypes.specs.declared.key.Key.{Key}
use Rattle.enctypes.specs.Etype.{key_len}
use Rattle.enctypes.specs.Key.{IsKey}
use Rattle.principal_rows.specs.KeyList.{IsKeyList}
use Rattle.principal_rows.specs.Versions.{IsVersions, is_above, are_falling, are_versions}
use Rattle.principal_rows.specs.declared.row.KeyVersion.{KeyVersion}
use Rattle.principal_rows.specs.declared.row.Row.{Row}
use Rattle.principal_rows.specs.Policy.{default_policy}
use Rattle.principal_rows.specs.declared.policy.Policy.{Policy}
use Rattle.text_fields.specs.declared.settings.Setting.{Setting}
use Rattle.text_fields.specs.declared.settings.Setting.TheVariants.{Flag, Life, Time}
use Rattle.text_fields.specs.Settings.{settings_of, with_setting, with_settings}
use Rattle.principals_text.specs.Format.{newest}
use Rattle.principals_text.specs.RowValue.{each, time_of, key_of, keys_of, version_of, versions_of}
use Rattle.principals_text.specs.RowValue.{setting_from, setting_in, policy_with, policy_of, row_of}
use Rattle.principals_text.specs.RowWritten.{time_value, key_value, keys_value, version_value, versions_value, setting_value}
use Rattle.principals_text.specs.RowWritten.{row_value}
use Rattle.principals_text.specs.ReadBack.{IsTime, IsFitting}

-- a property of the elements before one, and of that one
pub one_more_read : {A : Type 0} (P : A → Type 0) (xs : List A) (i : ℕ) (x : A) → AllWithin P xs 0 i → i < length xs → x ≡ get_or xs i x → P x → AllWithin P xs 0 (i + 1)
one_more_read P xs i x so_far within is here = AllWithin-more P xs 0 i so_far (at_read xs P i x within is here)

pub at_end : {A : Type 0} (P : A → Type 0) (xs : List A) (i : ℕ) → AllWithin P xs 0 i → length xs ≤ i → All P xs
at_end P xs i so_far past = All-from_all_within P xs (AllWithin-upto P xs 0 i (length xs) past so_far)

-- if each is read as it was written, all are
all_read : {A : Type 0} (f : Data → Option A) (g : A → Data) (xs : List A) → All (λ x. f (g x) ≡ Some x) xs → each f (items_of (map g xs)) ≡ Some xs
all_read f g [] reads = refl
all_read f g (x ∷ xs) reads = rw (All-head (λ x. f (g x) ≡ Some x) x xs reads, all_read f g xs (All-tail (λ x. f (g x) ≡ Some x) x xs reads)) refl

-- ---- keys

octets_are : (xs : List ℕ) → All (λ b. b < 256) xs → hex.IsBytes xs
octets_are xs all i = elim (cases_lt i (length xs)) [
  | inl within ↦ all i 0 within
  | inr past ↦ let none : get_or xs i 0 ≡ 0 = get_or_past xs i 0 past in omega (arith, none)
]

key_read : (key : Key) → IsKey key → key_of (key_value key) ≡ Some key
key_read key is = at key.etype key.bytes is.size (octets_are key.bytes is.octets)
  where
    at : (e : Etype) (bytes : List ℕ) → length bytes ≡ key_len e → hex.IsBytes bytes → key_of (key_value (record { etype = e; bytes = bytes })) ≡ Some (record { etype = e; bytes = bytes })
    at Aes128CtsHmacSha1_96 bytes len octets = rw (decode_sized-encode_lower bytes 16 len octets) refl
    at Aes256CtsHmacSha1_96 bytes len octets = rw (decode_sized-encode_lower bytes 32 len octets) refl
    at Aes128CtsHmacSha256_128 bytes len octets = rw (decode_sized-encode_lower bytes 16 len octets) refl
    at Aes256CtsHmacSha384_192 bytes len octets = rw (decode_sized-encode_lower bytes 32 len octets) refl

keys_read : (keys : List Key) → IsKeyList keys → keys_of (keys_value keys) ≡ Some keys
keys_read keys is =
    let there : (length keys == 0) ≡ false = grind (arith, nat_tests, is.some) in
    rw (all_read key_of key_value keys (λ i k within. key_read _ (is.keys_fit i k within)), there, is.distinct) refl

-- ---- versions

version_read : (v : KeyVersion) → v.number ≤ 4294967295 → IsKeyList v.keys → version_of (version_value v) ≡ Some v
version_read v fits keys =
    let small : nat_lt v.number 4294967296 ≡ true = grind (arith, nat_tests, fits) in
    rw (small, keys_read v.keys keys) refl

both : (a b : Bool) → a ≡ true → b ≡ true → (a && b) ≡ true
both true b p q = q
both false b p q = cc

versions_tested : (vs : List KeyVersion) → IsVersions vs → are_versions vs ≡ true
versions_tested vs is = both _ _ (test 0 (length vs) is.some) (falling vs is.positive is.falling)
  where
    test : (m n : ℕ) → m < n → nat_lt m n ≡ true
    test m n h = grind (arith, nat_tests, h)

    next : (v : KeyVersion) (vs : List KeyVersion) → AllPairs (λ v w. w.number < v.number) (v ∷ vs) → is_above v vs ≡ true
    next v [] pairs = refl
    next v (w ∷ ws) pairs = test w.number v.number (pairs 0 1 v (omega arith) (omega arith))

    falling : (vs : List KeyVersion) → All (λ v. 1 ≤ v.number) vs → AllPairs (λ v w. w.number < v.number) vs → are_falling vs ≡ true
    falling [] positive pairs = refl
    falling (v ∷ vs) positive pairs =
        both _ _ (both _ _ (test 0 v.number (positive 0 v (omega arith))) (next v vs pairs))
        (falling vs (All-tail (λ v. 1 ≤ v.number) v vs positive) (λ i j d lt within. pairs (suc i) (suc j) d (omega (arith, lt)) (omega (arith, within))))

pub versions_read : (vs : List KeyVersion) → IsVersions vs → versions_of (versions_value vs) ≡ Some vs
versions_read vs is =
    let each_read = all_read version_of version_value vs (λ i v within. version_read _ (is.bounded i v within) (is.keys_fit i v within)) in
    rw (each_read, versions_tested vs is) refl

-- ---- policies

pub time_read : (time : Option ℤ) → IsTime time → time_of (time_value time) ≡ Some time
time_read None is = refl
time_read (Some (pos n)) is = let small : nat_le n 253402300799 ≡ true = grind (arith, nat_tests, is) in rw small refl
time_read (Some (negsuc n)) is = absurd (grind (arith, is))

setting_read : (s : Setting) → IsFitting s → setting_from s (setting_value s) ≡ Some s
setting_read (Flag field on) fits = refl
setting_read (Life field life) fits = let small : nat_lt life 4294967296 ≡ true = grind (arith, nat_tests, fits) in rw small refl
setting_read (Time field time) fits = rw (time_read time fits) refl

-- settings that are found as they were written are set
settings_read : (d : Data) (fields ss : List Setting) (p : Policy)
    → map (setting_in newest d) fields ≡ map (λ s. setting_from s (setting_value s)) ss → All IsFitting ss
    → policy_with newest d fields p ≡ Some (with_settings ss p)
settings_read d [] [] p found fits = refl
settings_read d [] (s ∷ ss) p found fits = cc
settings_read d (f ∷ fs) [] p found fits = cc
settings_read d (f ∷ fs) (s ∷ ss) p found fits =
    let first : setting_in newest d f ≡ setting_from s (setting_value s) = cc in
    let others : map (setting_in newest d) fs ≡ map (λ s. setting_from s (setting_value s)) ss = cc in
    let here : setting_in newest d f ≡ Some s = first ∙ setting_read s (All-head IsFitting s ss fits) in
    rw here (settings_read d fs ss (with_setting s p) others (All-tail IsFitting s ss fits))

pub policy_read : (row : Row) → All IsFitting (settings_of row.policy) → policy_of newest (row_value row) ≡ Some row.policy
policy_read row fits =
    settings_read (row_value row) (settings_of default_policy) (settings_of row.policy) default_policy refl fits

pub row_read : (row : Row) → policy_of newest (row_value row) ≡ Some row.policy → versions_of (versions_value row.versions) ≡ Some row.versions → row_of newest (row_value row) ≡ Some row
row_read row policy versions = rw (policy, versions) refl
