-- What a journal begins with, as far as its text goes.
use Rattle.std.specs.Prelude.{◌≡◌, ℕ, ◌==◌, Bool, true, nat_lt, List, [], ◌∷◌, take, drop, Option, Some, None}
use Rattle.std.specs.Prelude.{option_map}
use Rattle.std.specs.Prelude.{is_some, if◌then◌else◌}
use Rattle.journal.specs.Forms.{Entry, Header}
use Rattle.journal.specs.Texts.{journal_text}

-- how many octets of a length follow its first one, if that is not the whole length
abbrev pub octets_behind : ℕ → Option ℕ
octets_behind first =
    if first == 129 then Some 1
    else if first == 130 then Some 2
    else if first == 131 then Some 3
    else if first == 132 then Some 4
    else None

abbrev pub more_octets : ℕ → Option ℕ
more_octets first = if nat_lt first 128 then Some 0 else octets_behind first

abbrev pub behind_length : List ℕ → Option (List ℕ)
behind_length [] = Some []
behind_length (first ∷ rest) = option_map (λ count. drop count rest) (more_octets first)

-- what follows a tag and a length; nothing follows a text that ends before
abbrev pub behind_tag : ℕ → List ℕ → Option (List ℕ)
behind_tag tag [] = Some []
behind_tag tag (first ∷ rest) = if first == tag then behind_length rest else None

infixl 10 ◌>>=◌
abbrev pub ◌>>=◌ : {A B : Type 0} → Option A → (A → Option B) → Option B
(Some x) >>= f = f x
None >>= f = None

-- An OCTET STRING, in it a SEQUENCE, in that the field [0], and in that an OCTET STRING: the realm.
abbrev pub head_of : List ℕ → Option (List ℕ)
head_of text = behind_tag 4 text >>= behind_tag 48 >>= behind_tag 160 >>= behind_tag 4

abbrev pub may_be_journal : List ℕ → Bool
may_be_journal text = is_some (head_of text)

-- a journal that was cut anywhere may still be one
abbrev pub FrontsMayBe : Type 0
FrontsMayBe = (h : Header) (es : List Entry) (n : ℕ) → may_be_journal (take n (journal_text h es)) ≡ true
