-- Keys and their texts, read one after the other.
use Rattle.std.proofs.Common.{◌≡◌, ◌==◌, ℕ, zero, suc, ◌+◌, ◌<◌, true, false, refl, ◌⊎◌, inl, inr, List, [], ◌∷◌, ◌++◌, length, get_or, take, sym, ap, subst, ◌∙◌, arith, Result, Ok, Err, IfOk}
use Rattle.std.specs.List.{slice_split, after_first}
use Rattle.std.proofs.lemmas.Int.{ints}
use Rattle.std.proofs.lemmas.List.Splits.{length-slice_split}
use Rattle.hex.specs.declared.error.FromHexError.{FromHexError}
use Rattle.hex.specs.Hex.{decode_sized}
use Rattle.enctypes.specs.declared.etype.Etype.{Etype}
use Rattle.enctypes.specs.declared.etype.Etype.TheVariants.{Aes128CtsHmacSha1_96, Aes256CtsHmacSha1_96, Aes128CtsHmacSha256_128, Aes256CtsHmacSha384_192}
use Rattle.enctypes.specs.Etype.{number, key_len}
use Rattle.principal_rows.specs.KeyList.{has_type_twice}
use Rattle.std.proofs.lemmas.List.{take_all, take_more}
use Rattle.enctypes.specs.declared.key.Key.{Key}
use Rattle.kdcd.specs.declared.line.LineError.{LineError}
use Rattle.kdcd.specs.Field.{IsKeyText, AreKeyTexts, IsKeysText}

-- the parts of a text between its commas
abbrev pub parts_of : List ℕ → List (List ℕ)
parts_of text = slice_split (λ b. b == 0x2C) text

AreKeyTexts-push : (ks : List Key) (ts : List (List ℕ)) (k : Key) (t : List ℕ) → AreKeyTexts ks ts → IsKeyText k t → AreKeyTexts (ks ++ k ∷ []) (ts ++ t ∷ [])
AreKeyTexts-push [] [] k t so_far is = (is, tt)
AreKeyTexts-push (l ∷ ks) (u ∷ ts) k t so_far is = (so_far.0, AreKeyTexts-push ks ts k t so_far.1 is)
AreKeyTexts-push [] (u ∷ ts) k t so_far is = absurd so_far
AreKeyTexts-push (l ∷ ks) [] k t so_far is = absurd so_far

-- one more key is read
pub one_more_key : (ks : List Key) (k : Key) (text part : List ℕ) (i : ℕ) → AreKeyTexts ks (take i (parts_of text)) → i < length (parts_of text) → part ≡ get_or (parts_of text) i part → IsKeyText k part
    → AreKeyTexts (ks ++ k ∷ []) (take (i + 1) (parts_of text))
one_more_key ks k text part i so_far within e is =
    subst (λ ts. AreKeyTexts (ks ++ k ∷ []) ts) (ap (λ t. take i (parts_of text) ++ t ∷ []) e ∙ sym (take_more (parts_of text) i part within))
    (AreKeyTexts-push ks (take i (parts_of text)) k part so_far is)

-- all keys are read
pub all_keys : (ks : List Key) (text : List ℕ) (i : ℕ) → AreKeyTexts ks (take i (parts_of text)) → i ≡ length (parts_of text) → AreKeyTexts ks (parts_of text)
all_keys ks text i so_far end = subst (λ ts. AreKeyTexts ks ts) (take_all i (parts_of text) (omega (arith, end))) so_far

-- the returned list is that of the keys
pub same_list : (r : Result (List Key) LineError) (ks : List Key) (text : List ℕ) → IfOk r (λ list. list ≡ ks) → IfOk r (λ _. has_type_twice ks ≡ false) → AreKeyTexts ks (parts_of text) → IfOk r (λ list. IsKeysText list text)
same_list (Ok list) ks text e distinct are = subst (λ l. IsKeysText l text) (sym e) (record { parts = are; distinct = distinct })
same_list (Err fault) ks text e distinct are = tt

-- ---- a text spells one key, and texts spell one list

number_one : (a b : Etype) → number a ≡ number b → a ≡ b
number_one Aes128CtsHmacSha1_96 Aes128CtsHmacSha1_96 e = refl
number_one Aes256CtsHmacSha1_96 Aes256CtsHmacSha1_96 e = refl
number_one Aes128CtsHmacSha256_128 Aes128CtsHmacSha256_128 e = refl
number_one Aes256CtsHmacSha384_192 Aes256CtsHmacSha384_192 e = refl
number_one Aes128CtsHmacSha1_96 Aes256CtsHmacSha1_96 e = absurd (omega (arith, ints, e))
number_one Aes128CtsHmacSha1_96 Aes128CtsHmacSha256_128 e = absurd (omega (arith, ints, e))
number_one Aes128CtsHmacSha1_96 Aes256CtsHmacSha384_192 e = absurd (omega (arith, ints, e))
number_one Aes256CtsHmacSha1_96 Aes128CtsHmacSha1_96 e = absurd (omega (arith, ints, e))
number_one Aes256CtsHmacSha1_96 Aes128CtsHmacSha256_128 e = absurd (omega (arith, ints, e))
number_one Aes256CtsHmacSha1_96 Aes256CtsHmacSha384_192 e = absurd (omega (arith, ints, e))
number_one Aes128CtsHmacSha256_128 Aes128CtsHmacSha1_96 e = absurd (omega (arith, ints, e))
number_one Aes128CtsHmacSha256_128 Aes256CtsHmacSha1_96 e = absurd (omega (arith, ints, e))
number_one Aes128CtsHmacSha256_128 Aes256CtsHmacSha384_192 e = absurd (omega (arith, ints, e))
number_one Aes256CtsHmacSha384_192 Aes128CtsHmacSha1_96 e = absurd (omega (arith, ints, e))
number_one Aes256CtsHmacSha384_192 Aes256CtsHmacSha1_96 e = absurd (omega (arith, ints, e))
number_one Aes256CtsHmacSha384_192 Aes128CtsHmacSha256_128 e = absurd (omega (arith, ints, e))

bytes_one : (xs ys : List ℕ) → ◌≡◌ {A = Result (List ℕ) FromHexError} (Ok xs) (Ok ys) → xs ≡ ys
bytes_one xs ys e = cc

key_one : (k l : Key) (text : List ℕ) → IsKeyText k text → IsKeyText l text → k ≡ l
key_one k l text a b =
    let etype : k.etype ≡ l.etype = number_one k.etype l.etype (a.etype ∙ sym b.etype) in
    let octets : decode_sized (after_first (λ c. c == 0x3A) text) (key_len k.etype) ≡ Ok l.bytes = subst (λ e. decode_sized (after_first (λ c. c == 0x3A) text) (key_len e) ≡ Ok l.bytes) (sym etype) b.octets in
    let bytes : k.bytes ≡ l.bytes = bytes_one k.bytes l.bytes (sym a.octets ∙ octets) in
    ap (λ e. record { etype = e; bytes = k.bytes }) etype ∙ ap (λ o. record { etype = l.etype; bytes = o }) bytes

pub keys_one : (ks ls : List Key) (ts : List (List ℕ)) → AreKeyTexts ks ts → AreKeyTexts ls ts → ks ≡ ls
keys_one [] [] [] a b = refl
keys_one (k ∷ ks) (l ∷ ls) (t ∷ ts) a b = ap (λ x. x ∷ ks) (key_one k l t a.0 b.0) ∙ ap (λ xs. l ∷ xs) (keys_one ks ls ts a.1 b.1)
keys_one [] (l ∷ ls) [] a b = absurd b
keys_one [] ls (t ∷ ts) a b = absurd a
keys_one (k ∷ ks) ls [] a b = absurd a
keys_one (k ∷ ks) [] (t ∷ ts) a b = absurd b

-- if one part is not a key's text, the parts are not those of any keys
pub no_keys_at : (ls : List Key) (ts : List (List ℕ)) (i : ℕ) (d : List ℕ) → i < length ts → ((k : Key) → ¬ IsKeyText k (get_or ts i d)) → ¬ AreKeyTexts ls ts
no_keys_at ls [] i d within none are = omega (arith, within)
no_keys_at [] (t ∷ ts) i d within none are = are
no_keys_at (l ∷ ls) (t ∷ ts) zero d within none are = none l are.0
no_keys_at (l ∷ ls) (t ∷ ts) (suc i) d within none are = no_keys_at ls ts i d (omega (arith, within)) none are.1

AreKeyTexts-none : (ts : List (List ℕ)) → 0 < length ts → ¬ AreKeyTexts [] ts
AreKeyTexts-none [] some are = omega (arith, some)
AreKeyTexts-none (t ∷ ts) some are = are

true_not_false : true ≡ false → ⊥
true_not_false e = cc

-- if the keys that were read are not a valid list, no other keys have the text either
pub no_list : (ks ls : List Key) (text : List ℕ) → AreKeyTexts ks (parts_of text) → (ks ≡ []) ⊎ (has_type_twice ks ≡ true) → ¬ IsKeysText ls text
no_list ks ls text are why is =
    let same : ks ≡ ls = keys_one ks ls (parts_of text) are is.parts in
    elim why [
      | inl none ↦ AreKeyTexts-none (parts_of text) (omega (arith, length-slice_split (λ b. b == 0x2C) text)) (subst (λ xs. AreKeyTexts xs (parts_of text)) none are)
      | inr twice ↦ absurd (true_not_false (sym twice ∙ ap has_type_twice same ∙ is.distinct))
    ]
