-- Members in rising order are read as they are written.
use Rattle.std.proofs.Common.{◌≡◌, ◌&&◌, is_lt, ℕ, suc, Bool, true, false, List, [], ◌∷◌, map, Some, option_map, option_and_then, Less, Equal, Greater, Ordering, refl, ap, ◌∙◌, nat_cmp, max}
use Rattle.std.specs.Ordering.{match_ordering, ordering_reverse}
use Rattle.std.specs.Cmp.Lexicographic.{slice_cmp}
use Rattle.std.proofs.lemmas.Cmp.{nat_list_cmp_total}
use Rattle.json.specs.Tree as tree
use Rattle.serde_json.specs.Data.{Data, null, boolean, number, string, array, object, Items, no_items, item, Members, no_members, member, put, depth, items_depth, members_depth}
use Rattle.serde_json.specs.Read.{of_items, of_members}
use Rattle.serde_json.specs.View.{items_of}
use Rattle.serde_json.specs.Written.{outline, items_outline, members_outline}
use Rattle.principals_text.specs.Tokens.{ReadsBack}

-- ---- depth

mutual
  pub depth-outline : (d : Data) → tree.depth (outline d) ≡ depth d
  depth-outline null = refl
  depth-outline (boolean b) = refl
  depth-outline (number n) = refl
  depth-outline (string s) = refl
  depth-outline (array ds) = ap suc (depth-items_outline ds)
  depth-outline (object ms) = ap suc (depth-members_outline ms)

  depth-items_outline : (ds : Items) → tree.items_depth (items_outline ds) ≡ items_depth ds
  depth-items_outline no_items = refl
  depth-items_outline (item d ds) = λ i. max (depth-outline d i) (depth-items_outline ds i)

  depth-members_outline : (ms : Members) → tree.members_depth (members_outline ms) ≡ members_depth ms
  depth-members_outline no_members = refl
  depth-members_outline (member k d ms) = λ i. max (depth-outline d i) (depth-members_outline ms i)

-- ---- items

pub items_kept : {A : Type 0} (f : A → Data) (xs : List A) → ((x : A) → ReadsBack (f x)) → of_items (items_outline (items_of (map f xs))) ≡ Some (items_of (map f xs))
unfolding ReadsBack
items_kept f [] each = refl
items_kept f (x ∷ xs) each = rw (each x, items_kept f xs each) refl

-- ---- members

-- the name is before the first of the members
abbrev pub IsNext : List ℕ → Members → Type 0
IsNext k no_members = Unit {0}
IsNext k (member l d ms) = slice_cmp nat_cmp k l ≡ Less

abbrev pub AreRising : Members → Type 0
AreRising no_members = Unit {0}
AreRising (member k d ms) = IsNext k ms × AreRising ms

-- the same as a test
abbrev is_next : List ℕ → Members → Bool
is_next k no_members = true
is_next k (member l d ms) = is_lt (slice_cmp nat_cmp k l)

abbrev pub are_rising : Members → Bool
are_rising no_members = true
are_rising (member k d ms) = is_next k ms && are_rising ms

next_if : (k : List ℕ) (ms : Members) → is_next k ms ≡ true → IsNext k ms
next_if k no_members h = tt
next_if k (member l d ms) h = less (slice_cmp nat_cmp k l) h
  where
    less : (o : Ordering) → is_lt o ≡ true → o ≡ Less
    less Less h = refl
    less Equal h = cc
    less Greater h = cc

pub rising_if : (ms : Members) → are_rising ms ≡ true → AreRising ms
rising_if no_members h = tt
rising_if (member k d ms) h =
    let parts = both (is_next k ms) (are_rising ms) h in (next_if k ms parts.0, rising_if ms parts.1)
  where
    both : (a b : Bool) → (a && b) ≡ true → (a ≡ true) × (b ≡ true)
    both true b h = (refl, h)
    both false b h = cc

abbrev pub AreKept : Members → Type 0
AreKept no_members = Unit {0}
AreKept (member k d ms) = ReadsBack d × AreKept ms

turned : (k l : List ℕ) (o : Ordering) → slice_cmp nat_cmp k l ≡ o → slice_cmp nat_cmp l k ≡ ordering_reverse o
turned k l o e = nat_list_cmp_total.antisymm l k ∙ ap ordering_reverse e

next-put : (j k : List ℕ) (d : Data) (ms : Members) → IsNext j ms → slice_cmp nat_cmp j k ≡ Less → IsNext j (put k d ms)
next-put j k d no_members a lt = lt
next-put j k d (member l e ms) a lt = at (slice_cmp nat_cmp k l)
  where
    at : (o : Ordering) → IsNext j (match_ordering o (member k d (member l e ms)) (member l d ms) (member l e (put k d ms)))
    at Less = lt
    at Equal = a
    at Greater = a

pub rising-put : (k : List ℕ) (d : Data) (ms : Members) → AreRising ms → AreRising (put k d ms)
rising-put k d no_members r = (tt, tt)
rising-put k d (member l e ms) r = at (slice_cmp nat_cmp k l) refl (rising-put k d ms r.1)
  where
    at : (o : Ordering) → slice_cmp nat_cmp k l ≡ o → AreRising (put k d ms) → AreRising (match_ordering o (member k d (member l e ms)) (member l d ms) (member l e (put k d ms)))
    at Less c later = (c, r)
    at Equal c later = r
    at Greater c later = (next-put l k d ms r.0 (turned k l Greater c), later)

pub kept-put : (k : List ℕ) (d : Data) (ms : Members) → ReadsBack d → AreKept ms → AreKept (put k d ms)
kept-put k d no_members h r = (h, tt)
kept-put k d (member l e ms) h r = at (slice_cmp nat_cmp k l) (kept-put k d ms h r.1)
  where
    at : (o : Ordering) → AreKept (put k d ms) → AreKept (match_ordering o (member k d (member l e ms)) (member l d ms) (member l e (put k d ms)))
    at Less later = (h, r)
    at Equal later = (h, r.1)
    at Greater later = (r.0, later)

-- the members, and then others
abbrev join : Members → Members → Members
join no_members more = more
join (member k d ms) more = member k d (join ms more)

join-none : (ms : Members) → ms ≡ join ms no_members
join-none no_members = refl
join-none (member k d ms) = ap (member k d) (join-none ms)

join-more : (ms : Members) (k : List ℕ) (d : Data) (more : Members) → join (join ms (member k d no_members)) more ≡ join ms (member k d more)
join-more no_members k d more = refl
join-more (member l e ms) k d more = ap (member l e) (join-more ms k d more)

-- all the members are before the name
abbrev AreBefore : Members → List ℕ → Type 0
AreBefore no_members k = Unit {0}
AreBefore (member l d ms) k = (slice_cmp nat_cmp l k ≡ Less) × AreBefore ms k

before_later : (ms : Members) (k l : List ℕ) → AreBefore ms k → slice_cmp nat_cmp k l ≡ Less → AreBefore ms l
before_later no_members k l b lt = tt
before_later (member j d ms) k l b lt = (nat_list_cmp_total.trans j k l b.0 lt, before_later ms k l b.1 lt)

before_join : (ms : Members) (k : List ℕ) (d : Data) (l : List ℕ) → AreBefore ms l → slice_cmp nat_cmp k l ≡ Less → AreBefore (join ms (member k d no_members)) l
before_join no_members k d l b lt = (lt, tt)
before_join (member j e ms) k d l b lt = (b.0, before_join ms k d l b.1 lt)

put_last : (ms : Members) (k : List ℕ) (d : Data) → AreBefore ms k → put k d ms ≡ join ms (member k d no_members)
put_last no_members k d b = refl
put_last (member l e ms) k d b = rw (turned l k Less b.0) (ap (member l e) (put_last ms k d b.1))

-- all of these are before the first of those
abbrev StandBefore : Members → Members → Type 0
StandBefore done no_members = Unit {0}
StandBefore done (member k d ms) = AreBefore done k

next_before : (done : Members) (k : List ℕ) (d : Data) (ms : Members) → AreBefore done k → IsNext k ms → StandBefore (join done (member k d no_members)) ms
next_before done k d no_members b n = tt
next_before done k d (member l e ms) b n = before_join done k d l (before_later done k l b n) n

read_on : (done ms : Members) → StandBefore done ms → AreRising ms → AreKept ms → of_members (members_outline ms) done ≡ Some (join done ms)
unfolding ReadsBack
read_on done no_members b r a = ap Some (join-none done)
read_on done (member k d ms) b r a =
    ap (option_and_then (λ x. of_members (members_outline ms) (put k x done))) a.0
    ∙ ap (of_members (members_outline ms)) (put_last done k d b)
    ∙ read_on (join done (member k d no_members)) ms (next_before done k d ms b r.0) r.1 a.1
    ∙ ap Some (join-more done k d ms)

none_before : (ms : Members) → StandBefore no_members ms
none_before no_members = tt
none_before (member k d ms) = tt

pub object_kept : (ms : Members) → AreRising ms → AreKept ms → ReadsBack (object ms)
unfolding ReadsBack
object_kept ms r a = ap (option_map object) (read_on no_members ms (none_before ms) r a)
