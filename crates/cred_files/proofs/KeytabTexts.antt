-- The bytes written for a keytab are that keytab.
use Rattle.std.specs.Prelude.{flat_map, option_to_list, unsigned_abs, All, ◌&&◌, map}
use Rattle.std.proofs.Common.{◌≡◌, ℕ, ℤ, pos, zero, suc, ◌+◌, ◌%◌, ◌^◌, ◌<◌, ◌≤◌, ltb, eqb, arith, List, [], ◌∷◌, ◌++◌, length, get_or, take, drop, drop-cons, Bool, true, false, Option, Some, None, Ok, refl, sym, ap, subst, ◌∙◌, inl, inr, w32, FitsSigned}
use Rattle.std.specs.Int.{to_be_bytes}
use Rattle.std.specs.List.{list_all, AllWithin}
use Rattle.std.proofs.lemmas.Bool.{ltb-true, lt-ltb, eqb-true, eqb-false, cases_Bool}
use Rattle.std.proofs.lemmas.List.{append-nil, length-append, take_more}
use Rattle.std.proofs.lemmas.List.Elements.{All-nil, All-cons, All-head, All-tail, All-get_or, AllWithin-more, AllWithin-upto, All-from_all_within, at_read}
use Rattle.std.proofs.lemmas.Nat.{from_be_bytes-to_be_bytes_4}
use Rattle.std.proofs.Math.Nat.{mod-lt}
use Rattle.enctypes.specs.declared.etype.Etype.{Etype}
use Rattle.enctypes.specs.declared.etype.Etype.TheVariants.{Aes128CtsHmacSha1_96, Aes256CtsHmacSha1_96, Aes128CtsHmacSha256_128, Aes256CtsHmacSha384_192}
use Rattle.enctypes.specs.Etype.{number, key_len}
use Rattle.enctypes.specs.Numbered.{type_numbered}
use Rattle.enctypes.specs.NumberedLaws.{own_number}
use Rattle.krb_elements.specs.Spells.{Items}
use Rattle.cred_files.specs.declared.fault.CredError.{CredError}
use Rattle.cred_files.specs.declared.fault.CredError.TheVariants as faults
use Rattle.cred_files.specs.declared.keytab_entry.KeytabEntry.{KeytabEntry}
use Rattle.cred_files.specs.Keytab.{HasCounts, IsEntry, IsPart, IsKeytab, IsNotWritten, entry_fields, entry_of, entry_text, keytab_text, newer, newest, part_text, unless_zero, version_of, written_fields}

-- ---- encryption types

pub etype_named : (n : ℕ) (e : Etype) → number e ≡ pos n → type_numbered (pos n) ≡ Some e
etype_named n e h = subst (λ (m : ℤ). type_numbered m ≡ Some e) h (own_number e)

-- the number fits in a file
pub small_number : (e : Etype) → unsigned_abs (number e) < 2 ^ 16
small_number Aes128CtsHmacSha1_96 = omega arith
small_number Aes256CtsHmacSha1_96 = omega arith
small_number Aes128CtsHmacSha256_128 = omega arith
small_number Aes256CtsHmacSha384_192 = omega arith

pub short_key : (e : Etype) → key_len e < 2 ^ 16
short_key Aes128CtsHmacSha1_96 = omega arith
short_key Aes256CtsHmacSha1_96 = omega arith
short_key Aes128CtsHmacSha256_128 = omega arith
short_key Aes256CtsHmacSha384_192 = omega arith

-- ---- counts

pub all_counted : (cs : List (List ℕ)) → list_all (λ c. ltb (length c) 65536) cs ≡ true → All (λ c. length c < 2 ^ 16) cs
all_counted [] e = All-nil (λ c. length c < 2 ^ 16)
all_counted (c ∷ cs) e = by_cases (ltb (length c) 65536) refl e (λ rest. all_counted cs rest)
  where
    by_cases : (test : Bool) → ltb (length c) 65536 ≡ test → test && list_all (λ k. ltb (length k) 65536) cs ≡ true
        → (list_all (λ k. ltb (length k) 65536) cs ≡ true → All (λ k. length k < 2 ^ 16) cs) → All (λ k. length k < 2 ^ 16) (c ∷ cs)
    by_cases true is rest more = All-cons (λ k. length k < 2 ^ 16) c cs (ltb-true (length c) 65536 is) (more rest)
    by_cases false is rest more = absurd cc

pub counted_all : (cs : List (List ℕ)) → All (λ c. length c < 2 ^ 16) cs → list_all (λ c. ltb (length c) 65536) cs ≡ true
counted_all [] all = refl
counted_all (c ∷ cs) all =
    let one : ltb (length c) 65536 ≡ true = lt-ltb (length c) 65536 (All-head (λ c. length c < 2 ^ 16) c cs all) in
    rw (one, counted_all cs (All-tail (λ c. length c < 2 ^ 16) c cs all)) refl

-- ---- an entry

pub fields_fit : (e : KeytabEntry) → HasCounts e → FitsSigned w32 e.name.name_type → length e.key.bytes ≡ key_len e.key.etype → entry_fields.form.Fits (written_fields e)
unfolding entry_fields
fields_fit e counts fits len =
    ((counts.0, counts.1, counts.2), (fits, (tt, (mod-lt e.version (omega arith), (small_number e.key.etype, omega (arith, len, short_key e.key.etype))))))

version_back : (v : ℕ) → v < 2 ^ 32 → version_of (v % 256) (to_be_bytes w32 v) ≡ v
version_back v lt = ap (λ (n : ℕ). unless_zero (v % 256) n) (from_be_bytes-to_be_bytes_4 v lt) ∙ same v
  where
    same : (v : ℕ) → unless_zero (v % 256) v ≡ v
    same v = elim (cases_Bool (eqb v 0)) [
      | inl p ↦ let none : v ≡ 0 = eqb-true v 0 p in rw none refl
      | inr p ↦ rw p refl
    ]

says : (e : KeytabEntry) → e.version < 2 ^ 32 → length e.key.bytes ≡ key_len e.key.etype
    → entry_of (written_fields e) (version_of (e.version % 256) (to_be_bytes w32 e.version)) (type_numbered (pos (unsigned_abs (number e.key.etype)))) ≡ Ok (Some e)
says e lt len =
    let same : eqb (length e.key.bytes) (key_len e.key.etype) ≡ true = eq_test (length e.key.bytes) (key_len e.key.etype) len in
    rw (version_back e.version lt, etype_named (unsigned_abs (number e.key.etype)) e.key.etype (number_pos e.key.etype), same) refl
  where
    eq_test : (m n : ℕ) → m ≡ n → eqb m n ≡ true
    eq_test m n h = elim (cases_Bool (eqb m n)) [ inl p ↦ p | inr p ↦ absurd (eqb-false m n p h) ]

    number_pos : (e : Etype) → number e ≡ pos (unsigned_abs (number e))
    number_pos Aes128CtsHmacSha1_96 = refl
    number_pos Aes256CtsHmacSha1_96 = refl
    number_pos Aes128CtsHmacSha256_128 = refl
    number_pos Aes256CtsHmacSha384_192 = refl

pub entry_is : (e : KeytabEntry) (octets : List ℕ) → entry_fields.form.Fits (written_fields e) → e.version < 2 ^ 32 → length e.key.bytes ≡ key_len e.key.etype → octets ≡ entry_text e → IsEntry (Some e) octets
entry_is e octets fits lt len is = record {
  fields = written_fields e;
  front = entry_fields.form.text (written_fields e);
  more = to_be_bytes w32 e.version;
  spells = entry_fields.laws.spelled (written_fields e) fits;
  all = is;
  says = says e lt len;
}

-- what put_fields and then the version wrote
pub entry_written : (e : KeytabEntry) (none a b : List ℕ) → none ≡ [] → a ≡ entry_fields.form.onto none (written_fields e) → b ≡ a ++ to_be_bytes w32 e.version → b ≡ entry_text e
entry_written e none a b r p q =
    let text : a ≡ entry_fields.form.text (written_fields e) = p ∙ entry_fields.laws.appends none (written_fields e) ∙ ap (λ (l : List ℕ). l ++ entry_fields.form.text (written_fields e)) r in
    q ∙ ap (λ (l : List ℕ). l ++ to_be_bytes w32 e.version) text

pub part_is : (e : KeytabEntry) (octets : List ℕ) → octets ≡ entry_text e → length (entry_text e) < 2 ^ 31 → IsEntry (Some e) octets → IsPart (Some e) (part_text e)
part_is e octets is short entry =
    let some : 0 < length (entry_text e) = omega (arith, length-append (entry_fields.form.text (written_fields e)) (to_be_bytes w32 e.version)) in
    inl (entry_text e, some, short, subst (λ (l : List ℕ). IsEntry (Some e) l) is entry, refl)

-- ---- the file

items_are : (es : List KeytabEntry) → All (λ e. IsPart (Some e) (part_text e)) es → Items IsPart (map (λ e. Some e) es) (flat_map part_text es)
items_are [] all = refl
items_are (e ∷ es) all = (part_text e, flat_map part_text es, All-head (λ e. IsPart (Some e) (part_text e)) e es all, items_are es (All-tail (λ e. IsPart (Some e) (part_text e)) e es all), refl)

held_are : (es : List KeytabEntry) → es ≡ flat_map option_to_list (map (λ e. Some e) es)
held_are [] = refl
held_are (e ∷ es) = ap (λ (l : List KeytabEntry). e ∷ l) (held_are es)

pub keytab_is : (es : List KeytabEntry) (bytes : List ℕ) → All (λ e. IsPart (Some e) (part_text e)) es → bytes ≡ keytab_text es → IsKeytab es bytes
keytab_is es bytes all is = record {
  parts = map (λ e. Some e) es;
  front = flat_map part_text es;
  end = [];
  spells = items_are es all;
  ends = inl refl;
  all = is ∙ ap (λ (l : List ℕ). 5 ∷ 2 ∷ l) (sym (append-nil (flat_map part_text es)));
  held = held_are es;
}

-- if a part doesn't fit, neither does the whole
pub not_whole : {Room Whole : Type 0} → (Whole → Room) → (fault : CredError) → IsNotWritten Room fault → IsNotWritten Whole fault
not_whole part faults.BadEntry h = λ whole. h (part whole)
not_whole part faults.Memory h = tt
not_whole part faults.BadMagic h = absurd h
not_whole part faults.Truncated h = absurd h
not_whole part faults.TooLate h = absurd h
not_whole part faults.Absent h = absurd h

-- a property of all elements holds of the one at an index
pub at_place : {A : Type 0} (P : A → Type 0) (xs : List A) (i : ℕ) (x : A) → x ≡ get_or xs i x → i < length xs → All P xs → P x
at_place P xs i x is lt all = subst P (sym is) (All-get_or P xs i x lt all)

pub one_more : {A : Type 0} (P : A → Type 0) (xs : List A) (i : ℕ) (x : A) → x ≡ get_or xs i x → i < length xs → P x → AllWithin P xs 0 i → AllWithin P xs 0 (i + 1)
one_more P xs i x is lt here so_far = AllWithin-more P xs 0 i so_far (at_read xs P i x lt is here)

pub at_end : {A : Type 0} (P : A → Type 0) (xs : List A) (i : ℕ) → length xs ≤ i → AllWithin P xs 0 i → All P xs
at_end P xs i past so_far = All-from_all_within P xs (AllWithin-upto P xs 0 i (length xs) past so_far)

-- the elements up to an index, and the one there
pub taken : {A : Type 0} (xs front new : List A) (i : ℕ) (x copy : A) → new ≡ front ++ copy ∷ [] → copy ≡ x → front ≡ take i xs → x ≡ get_or xs i x → i < length xs → new ≡ take (i + 1) xs
taken {A} xs front new i x copy push same so_far is lt =
    push ∙ ap (λ (y : A). front ++ y ∷ []) (same ∙ is) ∙ ap (λ (l : List A). l ++ get_or xs i x ∷ []) so_far ∙ sym (take_more xs i x lt)

-- ---- finding entries

here_is : (es : List KeytabEntry) (i j : ℕ) (e : KeytabEntry) → j ≡ suc i → e ≡ get_or es i e → i < length es → drop i es ≡ e ∷ drop j es
here_is es i j e next is lt =
    subst (λ (k : ℕ). drop i es ≡ e ∷ drop k es) (sym next) (rw (drop-cons es i e) (ap (λ (y : KeytabEntry). y ∷ drop (suc i) es) (sym is)))

pub found_here : (test : KeytabEntry → Bool) (es : List KeytabEntry) (i j : ℕ) (e : KeytabEntry) (later : Option KeytabEntry) → j ≡ suc i → e ≡ get_or es i e → i < length es → test e ≡ true
    → newest test (drop j es) ≡ later → newest test (drop i es) ≡ Some (newer e later)
unfolding newest
found_here test es i j e later next is lt pass so_far = ap (newest test) (here_is es i j e next is lt) ∙ rw pass (ap (λ (l : Option KeytabEntry). some (newer e l)) so_far)
  where
    some : KeytabEntry → Option KeytabEntry
    some x = Some x

pub not_here : (test : KeytabEntry → Bool) (es : List KeytabEntry) (i j : ℕ) (e : KeytabEntry) (later : Option KeytabEntry) → j ≡ suc i → e ≡ get_or es i e → i < length es → test e ≡ false
    → newest test (drop j es) ≡ later → newest test (drop i es) ≡ later
unfolding newest
not_here test es i j e later next is lt fail so_far = ap (newest test) (here_is es i j e next is lt) ∙ rw fail so_far

pub none_yet : (test : KeytabEntry → Bool) (es : List KeytabEntry) (i : ℕ) → length es ≤ i → newest test (drop i es) ≡ None
unfolding newest
none_yet test [] zero le = refl
none_yet test [] (suc i) le = refl
none_yet test (e ∷ es) zero le = absurd (omega (arith, le))
none_yet test (e ∷ es) (suc i) le = none_yet test es i (omega (arith, le))
