-- Printing printable strings gives printable characters, so a line of JSON is a single line.
use Rattle.std.proofs.Common.{rules, ◌≡◌, ◌<◌, ◌/◌, ◌%◌, ℕ, Bool, true, false, cond, List, [], ◌∷◌, ◌++◌, refl, arith}
use Rattle.std.specs.Prelude.{⊤, nat_lt, ◌||◌, ◌==◌}
use Rattle.std.specs.Char.{digit_char}
use Rattle.std.specs.List.{All}
use Rattle.std.proofs.lemmas.List.Elements.{All-append, All-cons, All-head, All-nil, All-push, All-tail}
use Rattle.json.specs.Print.{ends, escape, escape_byte, print_from, quoted, separator, token_text}
use Rattle.json.specs.Token.{Token, begin_object, end_object, begin_array, end_array, key, string, number, boolean, null, bad}
use Rattle.request_log.specs.Field.{Field, name_text}
use Rattle.request_log.specs.Lines.{IsLine, IsPrintable, fields_tokens, json_line, shown}
use Rattle.request_log.proofs.Shown.{all_shown, name_printable}

abbrev ArePrintable : List ℕ → Type 0
ArePrintable text = All IsPrintable text

either : (b : Bool) (p q : List ℕ) → ArePrintable p → ArePrintable q → ArePrintable (cond b p q)
either true p q first second = first
either false p q first second = second

one : (x : ℕ) → IsPrintable x → ArePrintable (x ∷ [])
one x p = All-cons IsPrintable x [] p (All-nil IsPrintable)

escaped : (x : ℕ) → IsPrintable x → ArePrintable (92 ∷ x ∷ [])
escaped x p = All-cons IsPrintable 92 (x ∷ []) (omega arith, omega arith) (one x p)

-- ---- strings

plain : (x : ℕ) → IsPrintable x → (control : List ℕ) → ArePrintable (cond (nat_lt x 32) control (x ∷ []))
plain x p control = by_test (nat_lt x 32) refl
  where
    by_test : (b : Bool) → nat_lt x 32 ≡ b → ArePrintable (cond b control (x ∷ []))
    by_test true e = absurd (let lt : x < 32 = search rules in omega (arith, lt, p.0))
    by_test false e = one x p

by_letter : (x : ℕ) (rest : List ℕ) → IsPrintable x → ArePrintable rest → (a b c d e f : Bool)
    → (let letter = cond a x (cond b 98 (cond c 102 (cond d 110 (cond e 114 (cond f 116 0))))) in ArePrintable (cond (nat_lt 0 letter) (92 ∷ letter ∷ []) rest))
by_letter x rest p all true b c d e f = either (nat_lt 0 x) (92 ∷ x ∷ []) rest (escaped x p) all
by_letter x rest p all false true c d e f = escaped 98 (omega arith, omega arith)
by_letter x rest p all false false true d e f = escaped 102 (omega arith, omega arith)
by_letter x rest p all false false false true e f = escaped 110 (omega arith, omega arith)
by_letter x rest p all false false false false true f = escaped 114 (omega arith, omega arith)
by_letter x rest p all false false false false false true = escaped 116 (omega arith, omega arith)
by_letter x rest p all false false false false false false = all

byte_printable : (x : ℕ) → IsPrintable x → ArePrintable (escape_byte x)
unfolding escape_byte
byte_printable x p =
    by_letter x _ p (plain x p (92 ∷ 117 ∷ 48 ∷ 48 ∷ digit_char (x / 16) ∷ digit_char (x % 16) ∷ []))
    ((x == 34) || (x == 92)) (x == 8) (x == 12) (x == 10) (x == 13) (x == 9)

escape_printable : (text : List ℕ) → ArePrintable text → ArePrintable (escape text)
escape_printable [] all = All-nil IsPrintable
escape_printable (x ∷ text) all =
    All-append IsPrintable (escape_byte x) (escape text) (byte_printable x (All-head IsPrintable x text all))
    (escape_printable text (All-tail IsPrintable x text all))

quoted_printable : (text : List ℕ) → ArePrintable text → ArePrintable (quoted text)
quoted_printable text all =
    All-cons IsPrintable 34 (escape text ++ 34 ∷ []) (omega arith, omega arith)
    (All-append IsPrintable (escape text) (34 ∷ []) (escape_printable text all) (one 34 (omega arith, omega arith)))

-- ---- tokens

-- a bracket, or a printable string
abbrev IsPlain : Token → Type 0
IsPlain begin_object = ⊤
IsPlain end_object = ⊤
IsPlain begin_array = ⊤
IsPlain end_array = ⊤
IsPlain (key s) = ArePrintable s
IsPlain (string s) = ArePrintable s
IsPlain (number s) = ⊥
IsPlain (boolean b) = ⊥
IsPlain null = ⊥
IsPlain bad = ⊥

token_printable : (t : Token) → IsPlain t → ArePrintable (token_text t)
token_printable begin_object p = one 123 (omega arith, omega arith)
token_printable end_object p = one 125 (omega arith, omega arith)
token_printable begin_array p = one 91 (omega arith, omega arith)
token_printable end_array p = one 93 (omega arith, omega arith)
token_printable (key s) p = All-append IsPrintable (quoted s) (58 ∷ []) (quoted_printable s p) (one 58 (omega arith, omega arith))
token_printable (string s) p = quoted_printable s p
token_printable (number s) p = absurd p
token_printable (boolean b) p = absurd p
token_printable null p = absurd p
token_printable bad p = absurd p

printed : (after : Bool) (ts : List Token) → All IsPlain ts → ArePrintable (print_from after ts)
unfolding print_from
printed after [] all = All-nil IsPrintable
printed after (t ∷ ts) all =
    All-append IsPrintable (separator after t) (token_text t ++ print_from (ends t) ts)
    (either _ (44 ∷ []) [] (one 44 (omega arith, omega arith)) (All-nil IsPrintable))
    (All-append IsPrintable (token_text t) (print_from (ends t) ts) (token_printable t (All-head IsPlain t ts all)) (printed (ends t) ts (All-tail IsPlain t ts all)))

-- ---- the fields

fields_plain : (ts : List Token) (fields : List Field) → All IsPlain ts → All IsPlain (fields_tokens ts fields)
fields_plain ts [] all = all
fields_plain ts (f ∷ fields) all =
    fields_plain (ts ++ key (name_text f.name) ∷ [] ++ string (shown f.value) ∷ []) fields
    (All-push IsPlain (ts ++ key (name_text f.name) ∷ []) (string (shown f.value))
    (All-push IsPlain ts (key (name_text f.name)) all (name_printable f.name)) (all_shown f.value))

pub is_json_line : (fields : List Field) → IsLine (json_line fields)
is_json_line fields = record {
  text = print_from false (fields_tokens (begin_object ∷ []) fields ++ end_object ∷ []);
  ends = refl;
  printable = printed false _ (All-push IsPlain (fields_tokens (begin_object ∷ []) fields) end_object (fields_plain (begin_object ∷ []) fields (All-cons IsPlain begin_object [] tt (All-nil IsPlain))) tt);
}
