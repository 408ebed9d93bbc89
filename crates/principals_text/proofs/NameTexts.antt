-- The text of a name, or of a realm, is read as that name and no other.
use Rattle.std.proofs.Common.{◌≡◌, ◌≢◌, ℕ, ◌+◌, ◌*◌, ◌/◌, ◌%◌, ◌<◌, ◌==◌, ◌&&◌, Bool, true, false, List, [], ◌∷◌, ◌++◌, map, Option, Some, None, refl, sym, ap, subst, ◌∙◌, arith, bytes_eq, if◌then◌else◌}
use Rattle.std.specs.List.{All}
use Rattle.std.proofs.lemmas.Bool.Decides.{nat_tests}
use Rattle.std.proofs.lemmas.List.Elements.{All-head, All-tail}
use Rattle.std.proofs.lemmas.Slice.Eq.{bytes_eq-Decides}
use Rattle.krb_fields.specs.Name.{Components}
use Rattle.krb_fields.specs.NameLimits.{is_component, is_within_limits, IsComponent, IsWithinLimits}
use Rattle.krb_fields.specs.NameLimitsLaws.{component_facts, name_facts}
use Rattle.krb_fields.specs.NameText.{is_plain, hex_digit, digits_of, octet_text, component_text, text_of, IsComponentText, IsNameText}
use Rattle.krb_fields.proofs.TextLaws as texts
use Rattle.principals_text.specs.NameOf.{digit_value, unescaped, component_of, parts_of, name_of}

unescaped-plain : (o : ℕ) (text : List ℕ) → o ≢ 0x5C → unescaped (o ∷ text) ≡ o ∷ unescaped text
unfolding unescaped
unescaped-plain o [] other = refl
unescaped-plain o (h ∷ []) other = refl
unescaped-plain o (h ∷ l ∷ text) other =
    let apart : (o == 0x5C) ≡ false = grind (arith, nat_tests, other) in
    rw apart refl

digit_value-hex_digit : (v : ℕ) → v < 16 → digit_value (hex_digit v) ≡ v
digit_value-hex_digit v below = grind (arith, nat_tests)

unescaped-digits : (o : ℕ) (text : List ℕ) → o < 256 → unescaped (0x5C ∷ (digits_of o ++ text)) ≡ o ∷ unescaped text
unfolding unescaped
unescaped-digits o text below =
    let high = digit_value-hex_digit (o / 16) (omega (arith, below)) in
    let low = digit_value-hex_digit (o % 16) (omega arith) in
    ap (λ p. p ∷ unescaped text) (ap (λ h. h * 16 + digit_value (hex_digit (o % 16))) high ∙ ap (λ l. o / 16 * 16 + l) low ∙ omega arith)

unescaped-octet : (o : ℕ) (text : List ℕ) → o < 256 → unescaped (octet_text o ++ text) ≡ o ∷ unescaped text
unescaped-octet o text below = at (is_plain o) refl
  where
    at : (b : Bool) → is_plain o ≡ b → unescaped (octet_text o ++ text) ≡ o ∷ unescaped text
    at true plain = ap (λ t. unescaped (t ++ text)) (texts.octet_text-plain o plain) ∙ unescaped-plain o text (texts.plain_is o plain).1
    at false escaped = ap (λ t. unescaped (t ++ text)) (texts.octet_text-escaped o escaped) ∙ unescaped-digits o text below

unescaped-component : (c : List ℕ) → All (λ o. o < 256) c → unescaped (component_text c) ≡ c
unfolding unescaped
unescaped-component [] below = refl
unescaped-component (o ∷ c) below =
    unescaped-octet o (component_text c) (All-head (λ o. o < 256) o c below) ∙ ap (λ l. o ∷ l) (unescaped-component c (All-tail (λ o. o < 256) o c below))

unescaped-components : (name : Components) → All IsComponent name → map unescaped (map component_text name) ≡ name
unescaped-components [] fit = refl
unescaped-components (c ∷ name) fit =
    λ i. unescaped-component c (component_facts c (All-head IsComponent c name fit)).2 i ∷ unescaped-components name (All-tail IsComponent c name fit) i

chosen : {A : Type 0} (a b : Bool) (x : A) → a ≡ true → b ≡ true → (if a && b then Some x else None) ≡ Some x
chosen true true x p q = refl
chosen false b x p q = cc
chosen true false x p q = cc

-- what is chosen, and the tests that it passed
taken : {A : Type 0} (a b : Bool) (x y : A) → (if a && b then Some x else None) ≡ Some y → (x ≡ y) × (a ≡ true) × (b ≡ true)
taken true true x y e = (cc, refl, refl)
taken false b x y e = cc
taken true false x y e = cc

same_bytes : (a b : List ℕ) → a ≡ b → bytes_eq a b ≡ true
same_bytes a b e = (bytes_eq-Decides a b).1 e

pub component_of-text : (c text : List ℕ) → IsComponentText c text → component_of text ≡ Some c
component_of-text c text is =
    let same : unescaped text ≡ c = ap unescaped (sym is.1) ∙ unescaped-component c (component_facts c is.0).2 in
    chosen (is_component (unescaped text)) _ (unescaped text)
    (ap is_component same ∙ is.0)
    (same_bytes _ _ (ap component_text same ∙ is.1)) ∙ ap Some same

pub name_of-text : (name : Components) (text : List ℕ) → IsNameText name text → name_of text ≡ Some name
name_of-text name text is =
    let same : parts_of text ≡ name = ap parts_of (sym is.1) ∙ ap (map unescaped) (texts.parts_of-text name (name_facts name is.0).0 (name_facts name is.0).2) ∙ unescaped-components name (name_facts name is.0).2 in
    chosen (is_within_limits (parts_of text)) _ (parts_of text)
    (ap is_within_limits same ∙ is.0)
    (same_bytes _ _ (ap text_of same ∙ is.1)) ∙ ap Some same

pub text-component_of : (c text : List ℕ) → component_of text ≡ Some c → IsComponentText c text
text-component_of c text e =
    let t = taken (is_component (unescaped text)) _ (unescaped text) c e in (
      subst IsComponent t.0 t.1,
      ap component_text (sym t.0) ∙ (bytes_eq-Decides (component_text (unescaped text)) text).0 t.2,
    )

pub text-name_of : (name : Components) (text : List ℕ) → name_of text ≡ Some name → IsNameText name text
text-name_of name text e =
    let t = taken (is_within_limits (parts_of text)) _ (parts_of text) name e in (
      subst IsWithinLimits t.0 t.1,
      ap text_of (sym t.0) ∙ (bytes_eq-Decides (text_of (parts_of text)) text).0 t.2,
    )

none_of : {A : Type 0} (o : Option A) → ((x : A) → o ≢ Some x) → o ≡ None
none_of None h = refl
none_of (Some x) h = absurd (h x refl)

-- a text that is no component's, and one that is no name's
pub component_of-none : (text : List ℕ) → ((c : List ℕ) → ¬ IsComponentText c text) → component_of text ≡ None
component_of-none text none = none_of (component_of text) (λ c e. none c (text-component_of c text e))

pub name_of-none : (text : List ℕ) → ((n : Components) → ¬ IsNameText n text) → name_of text ≡ None
name_of-none text none = none_of (name_of text) (λ n e. none n (text-name_of n text e))
