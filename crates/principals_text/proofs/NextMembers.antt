-- The members of a text, one by one.
use Rattle.std.proofs.Common.{◌≡◌, ℕ, ◌-◌, ◌<◌, ◌≤◌, List, [], ◌∷◌, length, Option, Some, None, option_map, option_and_then, refl, ap, ◌∙◌, arith, sym, append-nil}
use Rattle.json.specs.Token.{Token}
use Rattle.json.specs.Json as json
use Rattle.json.specs.Json.{Parse, parse_map, read_key, if_last, value, document}
use Rattle.json.specs.Lex.{tokens}
use Rattle.json.specs.Print.{print}
use Rattle.json.specs.Tree.{json_tokens, HasNumbers, depth}
use Rattle.json.proofs.Grammar.{members_end, members_more, value-begin_object}
use Rattle.json.proofs.Printed.Tokens.{tokens-print}
use Rattle.json.proofs.Printed.Trees.{value-json_tokens, ArePrintable-json_tokens}
use Rattle.serde_json.specs.Data.{Data, object, Members, no_members, put}
use Rattle.serde_json.specs.Read.{of_json, of_members, converted, read}
use Rattle.principals_text.specs.Ahead.{value_at, members_at}

abbrev pick : {A : Type 0} → A → Option A → A
pick d None = d
pick d (Some a) = a

found : {A B : Type 0} (a : A) (r s : List Token) (x : Option B) (b : B) → option_map {U = B × List Token} (λ y. (y, r)) x ≡ Some (b, s) → (r ≡ s) × (x ≡ Some b)
found a r s None b e = absurd (cc)
found a r s (Some y) b e = let same = ap (pick (y, r)) e in (ap (λ p. p.1) same, ap (λ p. Some p.0) same)

converted_some : {A B : Type 0} (f : A → Option B) (o : Option (A × List Token)) (b : B) (r : List Token) → converted f o ≡ Some (b, r) → (a : A) × (o ≡ Some (a, r)) × (f a ≡ Some b)
converted_some f None b r e = absurd (cc)
converted_some f (Some p) b r e = let both = found p.0 p.1 r (f p.0) b e in (p.0, ap (λ s. Some (p.0, s)) both.0, both.1)

with_member : (k : List ℕ) (j : json.Json) (d : Data) (old : Members) → of_json j ≡ Some d → (o : Option (json.Members × List Token))
    → converted (λ ms. of_members ms old) (parse_map (json.member k j) o) ≡ converted (λ ms. of_members ms (put k d old)) o
with_member k j d old e None = refl
with_member k j d old e (Some p) = rw e

twice : (r : List Token) (x : Option Members) → option_map (λ b. (b, r)) (option_map object x) ≡ parse_map object (option_map (λ a. (a, r)) x)
twice r None = refl
twice r (Some a) = refl

converted-object : (o : Option (json.Members × List Token)) → converted of_json (parse_map json.object o) ≡ parse_map object (converted (λ ms. of_members ms no_members) o)
converted-object None = refl
converted-object (Some p) = twice p.1 (of_members p.0 no_members)

-- an object is its members
pub object_next : (depth : ℕ) (ts : List Token) → 0 < depth → value_at depth (Token.begin_object ∷ ts) ≡ parse_map object (members_at (depth - 1) no_members (length ts) ts)
object_next depth ts some = ap (converted of_json) (value-begin_object depth ts some) ∙ converted-object (json.members (value (depth - 1)) (length ts) ts)

-- one more member
pub member_next : (depth : ℕ) (old : Members) (n : ℕ) (k : List ℕ) (ts s r : List Token) (d : Data) → 0 < n → read_key ts ≡ Some (Some k, s) → value_at depth s ≡ Some (d, r)
    → members_at depth old n ts ≡ members_at depth (put k d old) (n - 1) r
member_next depth old n k ts s r d some key e =
    let j = converted_some of_json (value depth s) d r e in
    ap (converted (λ ms. of_members ms old)) (members_more (value depth) n k ts s r j.0 some key j.1) ∙ with_member k j.0 d old j.2 _

-- no more members
pub no_member_next : (depth : ℕ) (old : Members) (n : ℕ) (ts r : List Token) → length ts ≤ n → read_key ts ≡ Some (None, r) → members_at depth old n ts ≡ Some (old, r)
no_member_next depth old n ts r enough e = ap (converted (λ ms. of_members ms old)) (members_end (value depth) n ts r enough e)

abbrev whole : Option (json.Json × List Token) → Option Data
whole o = option_and_then of_json (option_and_then (λ p. if_last p.0 p.1) o)

-- a text that is one value
pub whole_text : (text : List ℕ) (d : Data) → value_at 127 (tokens text) ≡ Some (d, []) → read text ≡ Some d
whole_text text d e = let j = converted_some of_json (value 127 (tokens text)) d [] e in ap whole j.1 ∙ j.2

-- a text with the tokens of a value is read as that value
pub read-tokens : (j : json.Json) (text : List ℕ) → depth j ≤ 127 → tokens text ≡ json_tokens j → read text ≡ of_json j
read-tokens j text shallow is = ap (λ ts. whole (value 127 ts)) (is ∙ sym (append-nil (json_tokens j))) ∙ ap whole (value-json_tokens j 127 [] shallow)

-- what is printed for a value is read as that value
pub read-print : (j : json.Json) (text : List ℕ) → HasNumbers j → depth j ≤ 127 → text ≡ print (json_tokens j) → read text ≡ of_json j
read-print j text numbers shallow is = read-tokens j text shallow (ap tokens is ∙ tokens-print (json_tokens j) (ArePrintable-json_tokens j numbers))

-- the next value is printed, and read again
pub read_again : (n : ℕ) (ts r : List Token) (j : json.Json) (text : List ℕ) (d : Data) → n ≤ 127 → value n ts ≡ Some (j, r) → HasNumbers j → depth j ≤ n → text ≡ print (json_tokens j) → read text ≡ Some d → value_at n ts ≡ Some (d, r)
read_again n ts r j text d within next numbers nests is reads =
    let same : of_json j ≡ Some d = sym (read-print j text numbers (omega (arith, within, nests)) is) ∙ reads in
    ap (converted of_json) next ∙ ap (option_map (λ b. (b, r))) same
