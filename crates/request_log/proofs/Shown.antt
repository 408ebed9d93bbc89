-- What `shown` returns is printable, and so is a line of text.
use Rattle.std.proofs.Common.{◌≡◌, ◌≤◌, ◌+◌, ℕ, zero, suc, Bool, true, false, List, [], ◌∷◌, ◌++◌, length, take, refl, ap, sym, ◌∙◌, arith, length-append, if◌then◌else◌, codes, Result, Ok, Err, OnOk}
use Rattle.std.specs.Bool.{Decides}
use Rattle.std.specs.List.{All, list_all}
use Rattle.std.specs.Str.{IsAscii, IsUtf8}
use Rattle.std.proofs.lemmas.Bool.{and_parts, leb-true, le-leb}
use Rattle.std.proofs.lemmas.Bool.Decides.{Decides-and}
use Rattle.std.proofs.lemmas.List.Elements.{All-append, All-cons, All-nil, All-push, All-take}
use Rattle.std.proofs.lemmas.List.{append-nil, append_assoc, length-take}
use Rattle.std.proofs.lemmas.Str.{IsAscii-append, IsUtf8-from_ascii}
use Rattle.std.proofs.lemmas.Str.Ascii.{IsAscii-nil}
use Rattle.json.specs.Token.{Token, begin_object, key, string}
use Rattle.request_log.specs.Field.{Field, is_column, name_text, with_fields}
use Rattle.request_log.specs.Lines.{IsLine, IsPrintable, field_text, fields_text, fields_tokens, is_printable, joined, label}
use Rattle.request_log.specs.Lines.{longest, shown, shown_octet, spaced, text_line, with_shown}
use Rattle.request_log.specs.declared.field.FieldName.{FieldName}
use Rattle.request_log.specs.declared.field.FieldName.TheVariants.{Time, Peer, Transport, Exchange, Client, Service}
use Rattle.request_log.specs.declared.field.FieldName.TheVariants.{Outcome, Lifetime, Code, Reason, Rule, Etype}
use Rattle.request_log.specs.declared.field.FieldName.TheVariants.{Flags, Until, Renew, Repeat, Sent}

pub one_decides : (o : ℕ) → Decides (is_printable o) (IsPrintable o)
one_decides o = Decides-and _ _ (leb-true 32 o, le-leb 32 o) (leb-true o 126, le-leb o 126)

by_test : (o : ℕ) (b : Bool) → is_printable o ≡ b → IsPrintable (if b then o else 63)
by_test o true e = (one_decides o).0 e
by_test o false e = (omega arith, omega arith)

octet_printable : (o : ℕ) → IsPrintable (shown_octet o)
octet_printable o = by_test o (is_printable o) refl

all_printable : (text octets : List ℕ) → All IsPrintable text → All IsPrintable (with_shown text octets)
all_printable text [] all = all
all_printable text (o ∷ octets) all = all_printable (text ++ shown_octet o ∷ []) octets (All-push IsPrintable text (shown_octet o) all (octet_printable o))

pub all_shown : (octets : List ℕ) → All IsPrintable (shown octets)
all_shown octets = all_printable [] octets (All-nil IsPrintable)

pub shown_after : (text octets : List ℕ) → with_shown text octets ≡ text ++ shown octets
shown_after text [] = sym (append-nil text)
shown_after text (o ∷ octets) =
    shown_after (text ++ shown_octet o ∷ []) octets
    ∙ append_assoc text (shown_octet o ∷ []) (shown octets)
    ∙ ap (λ s. text ++ s) (sym (shown_after (shown_octet o ∷ []) octets))

by_true : (o : ℕ) (b : Bool) → b ≡ true → (if b then o else 63) ≡ o
by_true o true e = refl
by_true o false e = absurd cc

-- what is printable is shown as it is
pub as_it_is : (octets : List ℕ) → list_all is_printable octets ≡ true → shown octets ≡ octets
as_it_is [] e = refl
as_it_is (o ∷ octets) e =
    shown_after (shown_octet o ∷ []) octets
    ∙ ap (λ s. shown_octet o ∷ s) (as_it_is octets (and_parts _ _ e).1)
    ∙ ap (λ x. x ∷ octets) (by_true o (is_printable o) (and_parts _ _ e).0)

-- ---- names of fields

by_all : (xs : List ℕ) → list_all is_printable xs ≡ true → All IsPrintable xs
by_all [] e = All-nil IsPrintable
by_all (x ∷ xs) e = All-cons IsPrintable x xs ((one_decides x).0 (and_parts _ _ e).0) (by_all xs (and_parts _ _ e).1)

name_is : (n : FieldName) → list_all is_printable (name_text n) ≡ true
name_is Time = refl
name_is Peer = refl
name_is Transport = refl
name_is Exchange = refl
name_is Client = refl
name_is Service = refl
name_is Outcome = refl
name_is Lifetime = refl
name_is Code = refl
name_is Reason = refl
name_is Rule = refl
name_is Etype = refl
name_is Flags = refl
name_is Until = refl
name_is Renew = refl
name_is Repeat = refl
name_is Sent = refl

pub name_printable : (n : FieldName) → All IsPrintable (name_text n)
name_printable n = by_all (name_text n) (name_is n)

-- ---- a line of text

label_by : (b : Bool) (text : List ℕ) → All IsPrintable text → All IsPrintable (if b then [] else text)
label_by true text all = All-nil IsPrintable
label_by false text all = all

label_printable : (n : FieldName) → All IsPrintable (label n)
label_printable n =
    label_by (is_column n) (name_text n ++ codes "=")
    (All-append IsPrintable (name_text n) (codes "=") (name_printable n) (by_all (codes "=") refl))

spaced_printable : (text : List ℕ) → All IsPrintable text → All IsPrintable (spaced text)
spaced_printable [] all = all
spaced_printable (o ∷ text) all = All-append IsPrintable (o ∷ text) (codes " ") all (by_all (codes " ") refl)

fields_printable : (text : List ℕ) (fields : List Field) → All IsPrintable text → All IsPrintable (fields_text text fields)
fields_printable text [] all = all
fields_printable text (f ∷ fields) all =
    fields_printable (spaced text ++ field_text f) fields
    (All-append IsPrintable (spaced text) (field_text f) (spaced_printable text all)
    (All-append IsPrintable (label f.name) (shown f.value) (label_printable f.name) (all_shown f.value)))

-- the first bytes of the fields are one line
pub is_line : (fields : List Field) → IsLine (text_line fields)
is_line fields = record {
  text = take longest (joined fields);
  ends = refl;
  printable = All-take IsPrintable longest (joined fields) (fields_printable [] fields (All-nil IsPrintable));
}

-- and a short one
pub is_short : (fields : List Field) → length (text_line fields) ≤ longest + 1
is_short fields =
    let n = length-take longest (joined fields) in
    let all = length-append (take longest (joined fields)) (10 ∷ []) in
    omega (arith, n, all)

-- ---- a field at the end

one_more : (text : List ℕ) (fields : List Field) (f : Field)
    → fields_text text (fields ++ f ∷ []) ≡ spaced (fields_text text fields) ++ field_text f
one_more text [] f = refl
one_more text (g ∷ fields) f = one_more (spaced text ++ field_text g) fields f

pub text_so : (text front : List ℕ) (fields : List Field) (f : Field) → text ≡ joined fields → front ≡ spaced text ++ label f.name
    → front ++ shown f.value ≡ joined (fields ++ f ∷ [])
text_so text front fields f is begins =
    ap (λ t. t ++ shown f.value) begins
    ∙ append_assoc (spaced text) (label f.name) (shown f.value)
    ∙ ap (λ t. spaced t ++ field_text f) is
    ∙ sym (one_more [] fields f)

one_more_token : (tokens : List Token) (fields : List Field) (f : Field)
    → fields_tokens tokens (fields ++ f ∷ []) ≡ fields_tokens tokens fields ++ key (name_text f.name) ∷ [] ++ string (shown f.value) ∷ []
one_more_token tokens [] f = refl
one_more_token tokens (g ∷ fields) f = one_more_token (tokens ++ key (name_text g.name) ∷ [] ++ string (shown g.value) ∷ []) fields f

pub tokens_so : (tokens keyed : List Token) (value : List ℕ) (fields : List Field) (f : Field) → tokens ≡ fields_tokens (begin_object ∷ []) fields
    → keyed ≡ tokens ++ key (name_text f.name) ∷ [] → value ≡ shown f.value
    → keyed ++ string value ∷ [] ≡ fields_tokens (begin_object ∷ []) (fields ++ f ∷ [])
tokens_so tokens keyed value fields f is keys shows =
    (λ i. keys i ++ string (shows i) ∷ [])
    ∙ ap (λ t. t ++ key (name_text f.name) ∷ [] ++ string (shown f.value) ∷ []) is
    ∙ sym (one_more_token (begin_object ∷ []) fields f)

pub of_both : {T E : Type 0} (r : Result T E) {A B C : Type 0} → (A → B → C) → OnOk r A → OnOk r B → OnOk r C
of_both (Ok done) f a b = f a b
of_both (Err error) f a b = tt

with_all : (before fields : List Field) → with_fields before fields ≡ before ++ fields
with_all before [] = sym (append-nil before)
with_all before (f ∷ fields) = with_all (before ++ f ∷ []) fields ∙ append_assoc before (f ∷ []) fields

pub from_none : (fields : List Field) → with_fields [] fields ≡ fields
from_none fields = with_all [] fields

-- ---- bytes that are shown are text

one_ascii : (o : ℕ) → IsPrintable o → IsAscii (o ∷ [])
one_ascii o p zero = omega (arith, p.1)
one_ascii o p (suc i) = omega arith

all_ascii : (text octets : List ℕ) → IsAscii text → IsAscii (with_shown text octets)
all_ascii text [] ascii = ascii
all_ascii text (o ∷ octets) ascii =
    all_ascii (text ++ shown_octet o ∷ []) octets
    (IsAscii-append text (shown_octet o ∷ []) ascii (one_ascii (shown_octet o) (octet_printable o)))

-- and valid UTF-8
pub is_utf8 : (octets : List ℕ) → IsUtf8 (shown octets)
is_utf8 octets = IsUtf8-from_ascii (shown octets) (all_ascii [] octets IsAscii-nil)
