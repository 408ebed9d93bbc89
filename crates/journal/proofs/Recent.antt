-- The entries that may matter, as they are read.
use Rattle.std.proofs.Common.{◌≡◌, ℕ, ℤ, pos, ◌-ℤ◌, ◌≤ℤ◌, Bool, true, false, if◌then◌else◌, List, [], ◌∷◌, ◌++◌, refl, sym, ap, subst, ◌∙◌, arith}
use Rattle.std.specs.Prelude.{int_le}
use Rattle.std.specs.Int.{int_max}
use Rattle.std.proofs.lemmas.Int.{ints, clamps}
use Rattle.krb_fields.specs.Skew.{skew}
use Rattle.journal.specs.Decision.{above, above_all, came, first_second, latest_of, recent}
use Rattle.krb_elements.specs.Codec.{written}
use Rattle.journal.specs.Forms.{Entry, Header, header}
use Rattle.journal.specs.Holding.{AgreeFrom, HaveEntries, Spells, cut}
use Rattle.journal.specs.declared.reading.Journal.{Journal}
use Rattle.journal.specs.Texts.{HasHeader, chained, checked, header_check, last_check}
use Rattle.journal.proofs.Chains.{IsRead, begins, done_found}

same_le : (a : ℤ) → a ≤ℤ a
same_le a = grind (arith, ints)

le_le : (a b c : ℤ) → a ≤ℤ b → b ≤ℤ c → a ≤ℤ c
le_le a b c x y = grind (arith, ints)

max_first : (a b : ℤ) → a ≤ℤ int_max a b
max_first a b = grind (arith, ints, clamps)

under_test : (a b c : ℤ) → int_le (b -ℤ pos skew) c ≡ true → a ≤ℤ b → int_le (a -ℤ pos skew) c ≡ true
under_test a b c x y = grind (arith, ints)

-- what was dropped by an earlier second is dropped by a later one
pub recent_twice : (from later : ℤ) → from ≤ℤ later → (es : List Entry) → recent later (recent from es) ≡ recent later es
recent_twice from later le [] = refl
recent_twice from later le (e ∷ es) = by_tests (int_le (from -ℤ pos skew) e.ctime) (int_le (later -ℤ pos skew) e.ctime) refl refl (recent_twice from later le es)
  where
    keep : Bool → List Entry → List Entry
    keep b xs = if b then e ∷ xs else xs

    by_tests : (a b : Bool) → int_le (from -ℤ pos skew) e.ctime ≡ a → int_le (later -ℤ pos skew) e.ctime ≡ b → recent later (recent from es) ≡ recent later es
        → recent later (if a then e ∷ recent from es else recent from es) ≡ (if b then e ∷ recent later es else recent later es)
    by_tests true b is_a is_b rest = ap (λ t. if t then e ∷ recent later (recent from es) else recent later (recent from es)) is_b ∙ ap (λ xs. if b then e ∷ xs else xs) rest
    by_tests false true is_a is_b rest = absurd (false_true is_a (under_test from later e.ctime is_b le))
      where
        false_true : int_le (from -ℤ pos skew) e.ctime ≡ false → int_le (from -ℤ pos skew) e.ctime ≡ true → ⊥
        false_true x y = absurd cc
    by_tests false false is_a is_b rest = rest

recent_append : (later : ℤ) (es others : List Entry) → recent later (es ++ others) ≡ recent later es ++ recent later others
recent_append later [] others = refl
recent_append later (e ∷ es) others = by_test (int_le (later -ℤ pos skew) e.ctime) (recent_append later es others)
  where
    by_test : (b : Bool) → recent later (es ++ others) ≡ recent later es ++ recent later others
        → (if b then e ∷ recent later (es ++ others) else recent later (es ++ others)) ≡ (if b then e ∷ recent later es else recent later es) ++ recent later others
    by_test true rest = ap (λ xs. e ∷ xs) rest
    by_test false rest = rest

pub latest_last : (at : ℤ) (es : List Entry) (e : Entry) → latest_of at (es ++ e ∷ []) ≡ int_max (latest_of at es) (came e)
latest_last at [] e = refl
latest_last at (x ∷ es) e = latest_last (int_max at (came x)) es e

pub above_last : (floor : ℤ) (es : List Entry) (e : Entry) → above_all floor (es ++ e ∷ []) ≡ above (above_all floor es) e.ctime
above_last floor [] e = refl
above_last floor (x ∷ es) e = above_last (above floor x.ctime) es e

-- what was read so far: all entries, and those that are left, among them all that may matter
pub record IsTaken (start before : List ℕ) (at floor : ℤ) (kept : List Entry) (latest high : ℤ) (rest check : List ℕ) : Type 0 where
  pub all : List Entry
  pub read : IsRead start before all rest check
  pub latest_is : latest ≡ latest_of at all
  pub high_is : high ≡ above_all floor all
  pub begun : first_second ≤ℤ latest
  pub agree : AgreeFrom latest kept all

pub none_taken : (start before : List ℕ) (at floor : ℤ) (kept : List Entry) (latest high : ℤ) → kept ≡ [] → latest ≡ at → high ≡ floor → first_second ≤ℤ latest
    → IsTaken start before at floor kept latest high start before
none_taken start before at floor kept latest high none is_at is_floor le = record {
  all = [];
  read = begins start before;
  latest_is = is_at;
  high_is = is_floor;
  begun = le;
  agree = λ later under. ap (recent later) none;
}

module _ (start before : List ℕ) (at floor : ℤ) (kept : List Entry) (latest high : ℤ) (rest check : List ℕ) (a : IsTaken start before at floor kept latest high rest check) where
  pub one_taken : (e : Entry) (left next : List ℕ) (fewer now : List Entry) (latest' high' : ℤ) → AgreeFrom latest fewer kept → now ≡ fewer ++ e ∷ []
      → latest' ≡ int_max latest (came e) → high' ≡ above high e.ctime → IsRead start before (a.all ++ e ∷ []) left next
      → IsTaken start before at floor now latest' high' left next
  one_taken e left next fewer now latest' high' agree now_is latest_now high_now read =
      let le : latest ≤ℤ latest' = subst (λ l. latest ≤ℤ l) (sym latest_now) (max_first latest (came e)) in
      record {
        all = a.all ++ e ∷ [];
        read = read;
        latest_is = latest_now ∙ (ap (λ l. int_max l (came e)) a.latest_is ∙ sym (latest_last at a.all e));
        high_is = high_now ∙ (ap (λ h. above h e.ctime) a.high_is ∙ sym (above_last floor a.all e));
        begun = le_le first_second latest latest' a.begun le;
        agree = λ later under.
            let since = le_le latest latest' later le under in
            ap (recent later) now_is
            ∙ (recent_append later fewer (e ∷ [])
            ∙ (ap (λ xs. xs ++ recent later (e ∷ [])) (agree later since ∙ a.agree later since) ∙ sym (recent_append later a.all (e ∷ []))));
      }

  pub all_taken : rest ≡ [] → HaveEntries start before at floor a.all (recent latest kept) check latest high
  all_taken none = record {
    text_is = done_found start before a.all rest check a.read none;
    check_is = a.read.last;
    have = a.read.have;
    kept_are = a.agree latest (same_le latest);
    latest_is = a.latest_is;
    high_is = a.high_is;
  }

  pub only_taken : rest ≡ [] → (es : List Entry) → a.all ≡ es → recent latest kept ≡ recent (latest_of at es) es
  only_taken none es is = a.agree latest (same_le latest) ∙ (ap (λ l. recent l a.all) a.latest_is ∙ ap (λ xs. recent (latest_of at xs) xs) is)

abbrev pub as_read : Header → List Entry → List ℕ → ℤ → ℤ → Journal
as_read h es check latest high = record { header = h; entries = es; check = check; latest = latest; high = high }

-- a header and the entries behind it spell a journal; those that may matter are left of it
pub spelled : (text rest : List ℕ) (h : Header) (check : List ℕ) (all kept : List Entry) (last : List ℕ) (latest high : ℤ)
    → text ≡ checked h.link (written header h) ++ rest → check ≡ header_check h → HasHeader h → HaveEntries rest check h.at h.floor all kept last latest high
    → (full : Journal) × Spells text full × (as_read h kept last latest high ≡ cut full)
spelled text rest h check all kept last latest high text_is check_now has es = (
  as_read h all last latest high,
  record {
    text_is = text_is ∙ ap (λ r. checked h.link (written header h) ++ r) (es.text_is ∙ ap (λ c. chained c all) check_now);
    check_is = es.check_is ∙ ap (λ c. last_check c all) check_now;
    has_header = has;
    have_elements = es.have;
    sums = record { latest_is = es.latest_is; high_is = es.high_is };
  },
  ap (λ k. as_read h k last latest high) es.kept_are,
)
