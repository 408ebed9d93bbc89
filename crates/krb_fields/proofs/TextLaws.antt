-- A text determines its byte, component or name.
use Rattle.std.proofs.Common.{◌≡◌, ◌≢◌, ◌==◌, ℕ, ◌+◌, ◌/◌, ◌%◌, ◌<◌, Bool, true, false, if◌then◌else◌, List, [], ◌∷◌, ◌++◌, length, get_or, take, map, refl, sym, ap, subst, ◌∙◌, arith, append_assoc, length-append}
use Rattle.std.specs.List.{All, join_with_byte, slice_split}
use Rattle.std.proofs.lemmas.List.{append-nil, get_or-map, length-map, map-append, take_all, take_more}
use Rattle.std.proofs.lemmas.List.Elements.{All-nil, All-cons, All-append, All-head, All-tail}
use Rattle.std.proofs.lemmas.List.Splits.{slice_split_none, slice_split_at, join_with_byte-slice_split, length-slice_split}
use Rattle.std.proofs.lemmas.Bool.Decides.{nat_tests}
use Rattle.krb_fields.specs.Name.{Components}
use Rattle.krb_fields.specs.NameLimits.{IsComponent}
use Rattle.krb_fields.specs.NameLimitsLaws.{component_facts, name_facts}
use Rattle.krb_fields.specs.NameText.{is_plain, hex_digit, digits_of, octet_text, component_text, text_of, IsComponentText, IsNameText}

-- ---- bytes

pub octet_text-plain : (o : ℕ) → is_plain o ≡ true → octet_text o ≡ o ∷ []
unfolding octet_text
octet_text-plain o p = ap (λ b. if b then o ∷ [] else 0x5C ∷ digits_of o) p

pub octet_text-escaped : (o : ℕ) → is_plain o ≡ false → octet_text o ≡ 0x5C ∷ digits_of o
unfolding octet_text
octet_text-escaped o p = ap (λ b. if b then o ∷ [] else 0x5C ∷ digits_of o) p

pub plain_is : (o : ℕ) → is_plain o ≡ true → (o < 128) × (o ≢ 0x5C) × (o ≢ 0x2F)
plain_is o p = (grind (arith, nat_tests), grind (arith, nat_tests), grind (arith, nat_tests))

pub hex_digit_is : (v : ℕ) → v < 16 → (hex_digit v < 128) × (hex_digit v ≢ 0x2F)
hex_digit_is v h = (grind (arith, nat_tests), grind (arith, nat_tests))

pub hex_digit-injective : (v w : ℕ) → hex_digit v ≡ hex_digit w → v ≡ w
hex_digit-injective v w e = grind (arith, nat_tests)

digits_of-prefix : (a b : ℕ) (u v : List ℕ) → digits_of a ++ u ≡ digits_of b ++ v → (a ≡ b) × (u ≡ v)
digits_of-prefix a b u v e =
    let high : hex_digit (a / 16) ≡ hex_digit (b / 16) = cc in
    let low : hex_digit (a % 16) ≡ hex_digit (b % 16) = cc in
    let quotient = hex_digit-injective _ _ high in
    let remainder = hex_digit-injective _ _ low in
    (omega (arith, quotient, remainder), cc)

-- no byte's text is a prefix of another's
pub octet_text-prefix : (a b : ℕ) (u v : List ℕ) → octet_text a ++ u ≡ octet_text b ++ v → (a ≡ b) × (u ≡ v)
octet_text-prefix a b u v e = by_cases (is_plain a) (is_plain b) refl refl
  where
    by_cases : (s t : Bool) → is_plain a ≡ s → is_plain b ≡ t → (a ≡ b) × (u ≡ v)
    by_cases true true p q =
        let same : a ∷ u ≡ b ∷ v = sym (ap (λ t. t ++ u) (octet_text-plain a p)) ∙ e ∙ ap (λ t. t ++ v) (octet_text-plain b q) in
        (cc, cc)
    by_cases true false p q =
        let same : a ∷ u ≡ 0x5C ∷ (digits_of b ++ v) = sym (ap (λ t. t ++ u) (octet_text-plain a p)) ∙ e ∙ ap (λ t. t ++ v) (octet_text-escaped b q) in
        let first : a ≡ 0x5C = cc in
        absurd ((plain_is a p).1 first)
    by_cases false true p q =
        let same : 0x5C ∷ (digits_of a ++ u) ≡ b ∷ v = sym (ap (λ t. t ++ u) (octet_text-escaped a p)) ∙ e ∙ ap (λ t. t ++ v) (octet_text-plain b q) in
        let first : b ≡ 0x5C = cc in
        absurd ((plain_is b q).1 first)
    by_cases false false p q =
        let same : 0x5C ∷ (digits_of a ++ u) ≡ 0x5C ∷ (digits_of b ++ v) = sym (ap (λ t. t ++ u) (octet_text-escaped a p)) ∙ e ∙ ap (λ t. t ++ v) (octet_text-escaped b q) in
        digits_of-prefix a b u v cc

pub octet_text-nonempty : (o : ℕ) → 0 < length (octet_text o)
octet_text-nonempty o = by_cases (is_plain o) refl
  where
    by_cases : (s : Bool) → is_plain o ≡ s → 0 < length (octet_text o)
    by_cases true p = rw (octet_text-plain o p) (omega arith)
    by_cases false p = rw (octet_text-escaped o p) (omega arith)

-- ---- the beginning of a text

pub nothing_begins : (text : List ℕ) → length text ≡ 0 → (o : ℕ) (rest : List ℕ) → octet_text o ++ rest ≢ text
nothing_begins text none o rest e = absurd (omega (arith, none, octet_text-nonempty o, simp length-append at (ap length e)))

pub plain_begins : (first o : ℕ) (rest after : List ℕ) → is_plain o ≡ true → octet_text o ++ after ≡ first ∷ rest → o ≡ first
plain_begins first o rest after p e =
    let same : o ∷ after ≡ first ∷ rest = sym (ap (λ t. t ++ after) (octet_text-plain o p)) ∙ e in
    cc

pub escaped_begins : (first o : ℕ) (rest after : List ℕ) → is_plain o ≡ false → octet_text o ++ after ≡ first ∷ rest → (0x5C ≡ first) × (digits_of o ++ after ≡ rest)
escaped_begins first o rest after p e =
    let same : 0x5C ∷ (digits_of o ++ after) ≡ first ∷ rest = sym (ap (λ t. t ++ after) (octet_text-escaped o p)) ∙ e in
    (cc, cc)

-- `\` is followed by the digits of a byte that is not plain
pub after_backslash : (o : ℕ) (rest after : List ℕ) → octet_text o ++ after ≡ 0x5C ∷ rest → (is_plain o ≡ false) × (digits_of o ++ after ≡ rest)
after_backslash o rest after e = by_cases (is_plain o) refl
  where
    by_cases : (s : Bool) → is_plain o ≡ s → (is_plain o ≡ false) × (digits_of o ++ after ≡ rest)
    by_cases true p = absurd ((plain_is o p).1 (plain_begins 0x5C o rest after p e))
    by_cases false p = (p, (escaped_begins 0x5C o rest after p e).1)

-- no text begins with any other byte that is not plain
pub none_begins : (first : ℕ) (rest : List ℕ) → first ≢ 0x5C → is_plain first ≡ false → (o : ℕ) (after : List ℕ) → octet_text o ++ after ≢ first ∷ rest
none_begins first rest other q o after e = by_cases (is_plain o) refl
  where
    by_cases : (s : Bool) → is_plain o ≡ s → ⊥
    by_cases true p = let same = plain_begins first o rest after p e in let both = sym p ∙ ap is_plain same ∙ q in cc
    by_cases false p = other (sym (escaped_begins first o rest after p e).0)

-- ---- the bytes in components of names

abbrev pub NotSlash : ℕ → Type 0
NotSlash x = (x == 0x2F) ≡ false

not_slash : (x : ℕ) → x ≢ 0x2F → NotSlash x
not_slash x h = grind (arith, nat_tests)

octet_text-no_slash : (o : ℕ) → o < 256 → All NotSlash (octet_text o)
octet_text-no_slash o below = by_cases (is_plain o) refl
  where
    by_cases : (s : Bool) → is_plain o ≡ s → All NotSlash (octet_text o)
    by_cases true p = rw (octet_text-plain o p) (All-cons NotSlash o [] (not_slash o (plain_is o p).2) (All-nil NotSlash))
    by_cases false p =
        let high = not_slash (hex_digit (o / 16)) (hex_digit_is (o / 16) (omega arith)).1 in
        let low = not_slash (hex_digit (o % 16)) (hex_digit_is (o % 16) (omega arith)).1 in
        rw (octet_text-escaped o p) (All-cons NotSlash 0x5C (digits_of o) refl (All-cons NotSlash (hex_digit (o / 16)) (hex_digit (o % 16) ∷ []) high (All-cons NotSlash (hex_digit (o % 16)) [] low (All-nil NotSlash))))

-- ---- components

pub component_text-nil : (m : List ℕ) → component_text m ≡ [] → m ≡ []
component_text-nil [] e = refl
component_text-nil (o ∷ m) e = absurd (omega (arith, octet_text-nonempty o, simp length-append at (ap length e)))

-- a prefix of a component's text is the text of a prefix of the component
pub component_text-prefix : (a c rest : List ℕ) → component_text a ++ rest ≡ component_text c → (m : List ℕ) × (c ≡ a ++ m) × (component_text m ≡ rest)
component_text-prefix [] c rest e = (c, refl, sym e)
component_text-prefix (x ∷ a) [] rest e = absurd (omega (arith, octet_text-nonempty x, simp length-append at (ap length e)))
component_text-prefix (x ∷ a) (y ∷ c) rest e =
    let first = octet_text-prefix x y (component_text a ++ rest) (component_text c) (sym (append_assoc (octet_text x) (component_text a) rest) ∙ e) in
    let more = component_text-prefix a c rest first.1 in
    (more.0, ap (λ o. o ∷ c) (sym first.0) ∙ ap (λ l. x ∷ l) more.1, more.2)

pub component_text-injective : (a c : List ℕ) → component_text a ≡ component_text c → a ≡ c
component_text-injective a c e =
    let more = component_text-prefix a c [] (append-nil (component_text a) ∙ e) in
    sym (more.1 ∙ ap (λ m. a ++ m) (component_text-nil more.0 more.2) ∙ append-nil a)

pub component_text-no_slash : (c : List ℕ) → All (λ o. o < 256) c → All NotSlash (component_text c)
component_text-no_slash [] below = All-nil NotSlash
component_text-no_slash (o ∷ c) below =
    All-append NotSlash (octet_text o) (component_text c) (octet_text-no_slash o (All-head (λ o. o < 256) o c below)) (component_text-no_slash c (All-tail (λ o. o < 256) o c below))

All-rest-of : (xs ys : List ℕ) → All (λ o. o < 256) (xs ++ ys) → All (λ o. o < 256) ys
All-rest-of [] ys h = h
All-rest-of (x ∷ xs) ys h = All-rest-of xs ys (All-tail (λ o. o < 256) x (xs ++ ys) h)

-- if a text spells a component and some bytes of it are read, the component is those bytes and more, which the rest
-- spells
pub more_octets : (read octets rest text : List ℕ) → component_text read ++ rest ≡ text → component_text octets ≡ text → (m : List ℕ) × (octets ≡ read ++ m) × (component_text m ≡ rest)
more_octets read octets rest text so_far spelled = component_text-prefix read octets rest (so_far ∙ sym spelled)

pub all_octets : (read octets rest text : List ℕ) → component_text read ++ rest ≡ text → component_text octets ≡ text → rest ≡ [] → octets ≡ read
all_octets read octets rest text so_far spelled none =
    let more = more_octets read octets rest text so_far spelled in
    more.1 ∙ ap (λ m. read ++ m) (component_text-nil more.0 (more.2 ∙ none)) ∙ append-nil read

-- if the rest of a text begins with no byte's text, the text spells no component
pub none_spelled : (read octets rest text : List ℕ) → component_text read ++ rest ≡ text → component_text octets ≡ text → All (λ o. o < 256) octets → 0 < length rest
    → ((o : ℕ) (after : List ℕ) → o < 256 → octet_text o ++ after ≢ rest) → ⊥
none_spelled read octets rest text so_far spelled below some none = let more = more_octets read octets rest text so_far spelled in go more.0 more.1 more.2
  where
    go : (m : List ℕ) → octets ≡ read ++ m → component_text m ≡ rest → ⊥
    go [] e f = absurd (omega (arith, some, ap length f))
    go (o ∷ m) e f = none o (component_text m) (All-head (λ o. o < 256) o m (All-rest-of read (o ∷ m) (subst (λ l. All (λ o. o < 256) l) e below))) f

pub too_many : (read octets rest text : List ℕ) → component_text read ++ rest ≡ text → component_text octets ≡ text → 0 < length rest → length read < length octets
too_many read octets rest text so_far spelled some = let more = more_octets read octets rest text so_far spelled in go more.0 more.1 more.2
  where
    go : (m : List ℕ) → octets ≡ read ++ m → component_text m ≡ rest → length read < length octets
    go [] e f = absurd (omega (arith, some, ap length f))
    go (o ∷ m) e f = omega (arith, simp length-append at (ap length e))

-- ---- names

-- one more component
pub text_of-push : (name : Components) (c : List ℕ) → 0 < length name → text_of (name ++ c ∷ []) ≡ text_of name ++ (0x2F ∷ component_text c)
text_of-push [] c some = absurd (omega (arith, some))
text_of-push (d ∷ []) c some = refl
text_of-push (d ∷ e ∷ name) c some =
    ap (λ t. component_text d ++ (0x2F ∷ t)) (text_of-push (e ∷ name) c (omega arith)) ∙ sym (append_assoc (component_text d) (0x2F ∷ text_of (e ∷ name)) (0x2F ∷ component_text c))

-- the parts between the slashes of a text
abbrev pub parts_of : List ℕ → List (List ℕ)
parts_of text = slice_split (λ b. b == 0x2F) text

pub text_of-parts : (name : Components) (text : List ℕ) → map component_text name ≡ parts_of text → text_of name ≡ text
text_of-parts name text e = ap (join_with_byte 0x2F) e ∙ join_with_byte-slice_split 0x2F text

pub parts_of-text : (name : Components) → 0 < length name → All IsComponent name → parts_of (text_of name) ≡ map component_text name
parts_of-text [] some each = absurd (omega (arith, some))
parts_of-text (c ∷ []) some each = slice_split_none (λ b. b == 0x2F) (component_text c) (component_text-no_slash c (component_facts c (All-head IsComponent c [] each)).2)
parts_of-text (c ∷ d ∷ name) some each =
    slice_split_at (λ b. b == 0x2F) (component_text c) 0x2F (text_of (d ∷ name)) (component_text-no_slash c (component_facts c (All-head IsComponent c (d ∷ name) each)).2) refl
    ∙ ap (λ l. component_text c ∷ l) (parts_of-text (d ∷ name) (omega arith) (All-tail IsComponent c (d ∷ name) each))

-- names with the same texts are equal
pub texts-injective : (a b : Components) → map component_text a ≡ map component_text b → a ≡ b
texts-injective [] [] e = refl
texts-injective [] (d ∷ b) e = cc
texts-injective (c ∷ a) [] e = cc
texts-injective (c ∷ a) (d ∷ b) e =
    let first : component_text c ≡ component_text d = cc in
    let rest : map component_text a ≡ map component_text b = cc in
    let same = component_text-injective c d first in
    let others = texts-injective a b rest in
    cc

-- ---- the parts of a name's text

pub parts_spelled : (name : Components) (text : List ℕ) → IsNameText name text → parts_of text ≡ map component_text name
parts_spelled name text is = ap parts_of (sym is.1) ∙ parts_of-text name (name_facts name is.0).0 (name_facts name is.0).2

pub count_spelled : (name : Components) (text : List ℕ) → IsNameText name text → length (parts_of text) ≡ length name
count_spelled name text is = ap length (parts_spelled name text is) ∙ length-map name component_text

-- a part of a name's text is the text of a component
pub part_spelled : (name : Components) (text part : List ℕ) (i : ℕ) → IsNameText name text → i < length (parts_of text) → part ≡ get_or (parts_of text) i part → IsComponentText (get_or name i []) part
part_spelled name text part i is within e =
    let below : i < length name = omega (arith, within, count_spelled name text is) in
    ((name_facts name is.0).2 i [] below, sym (e ∙ ap (λ l. get_or l i part) (parts_spelled name text is) ∙ get_or-map component_text name i [] part below))

pub parts_nonempty : (text : List ℕ) → 0 < length (parts_of text)
parts_nonempty text = omega (arith, length-slice_split (λ b. b == 0x2F) text)

-- one more part is read
pub one_more_part : (read : Components) (c : List ℕ) (text part : List ℕ) (i : ℕ) → map component_text read ≡ take i (parts_of text) → i < length (parts_of text) → part ≡ get_or (parts_of text) i part → component_text c ≡ part
    → map component_text (read ++ c ∷ []) ≡ take (i + 1) (parts_of text)
one_more_part read c text part i so_far within e spelled =
    map-append component_text read (c ∷ []) ∙ ap (λ l. l ++ component_text c ∷ []) so_far ∙ ap (λ t. take i (parts_of text) ++ t ∷ []) (spelled ∙ e) ∙ sym (take_more (parts_of text) i part within)

pub all_parts : (read : Components) (text : List ℕ) (i : ℕ) → map component_text read ≡ take i (parts_of text) → i ≡ length (parts_of text) → map component_text read ≡ parts_of text
all_parts read text i so_far end = so_far ∙ take_all i (parts_of text) (omega (arith, end))

-- names within the limits with the same text are equal
pub IsNameText-injective : (a b : Components) (text : List ℕ) → IsNameText a text → IsNameText b text → a ≡ b
IsNameText-injective a b text is other = texts-injective a b (sym (parts_spelled a text is) ∙ parts_spelled b text other)
