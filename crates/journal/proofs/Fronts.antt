-- A text that begins as a journal spells no other journal but one that goes on behind it.
use Rattle.std.proofs.Common.{◌≡◌, ◌<◌, ◌^◌, ℕ, List, [], ◌∷◌, ◌++◌, length, refl, sym, ap, subst, ◌∙◌, append_assoc, arith}
use Rattle.std.proofs.lemmas.List.{append-nil, length-append, length-take, nil_from_length}
use Rattle.sha2.specs.Sha256.{sha256}
use Rattle.krb_der.specs.Laws.{tlv_again}
use Rattle.krb_der.specs.Reading.{tlv_at}
use Rattle.krb_der.specs.Spelling.{tlv}
use Rattle.krb_der.specs.StepLaws.{ok_is}
use Rattle.krb_elements.specs.Codec.{Codec, written}
use Rattle.journal.specs.Forms.{Entry, entry, header}
use Rattle.journal.specs.Decision.{above_all, latest_of}
use Rattle.journal.specs.Holding.{HasSums, Spells}
use Rattle.journal.specs.Texts.{HaveElements, chained, check_of, checked, header_check, journal_text, last_check}
use Rattle.journal.specs.declared.reading.Journal.{Journal}
use Rattle.journal.proofs.Chains.{checked_some, have_first, none_chained, one_first, w}

-- one element has one end
one_tlv : (a b x y : List ℕ) → length a < 2 ^ 32 → length b < 2 ^ 32 → tlv 4 a ++ x ≡ tlv 4 b ++ y → (a ≡ b) × (x ≡ y)
one_tlv a b x y la lb is =
    let same = ok_is (a, x) (b, y) (sym (tlv_again 4 a x la) ∙ (ap (tlv_at 4) is ∙ tlv_again 4 b y lb)) in
    (ap (λ (p : List ℕ × List ℕ). p.0) same, ap (λ (p : List ℕ × List ℕ). p.1) same)

check_short : (check element : List ℕ) → length (check_of check element) < 2 ^ 32
check_short check element = let short = length-take 16 (sha256 (check ++ element)) in omega (arith, short)

pub one_checked : (c d a b x y : List ℕ) → length a < 2 ^ 32 → length b < 2 ^ 32 → checked c a ++ x ≡ checked d b ++ y
    → (a ≡ b) × (x ≡ y)
one_checked c d a b x y la lb is =
    let first = one_tlv a b (tlv 4 (check_of c a) ++ x) (tlv 4 (check_of d b) ++ y) la lb
    (sym (append_assoc (tlv 4 a) (tlv 4 (check_of c a)) x) ∙ (is ∙ append_assoc (tlv 4 b) (tlv 4 (check_of d b)) y)) in
    let second = one_tlv (check_of c a) (check_of d b) x y (check_short c a) (check_short d b) first.1 in
    (first.0, second.1)

-- a value that is written is one value
pub one_value : {A : Type 0} (c : Codec A) (x y : A) → c.Spells x (written c x) → c.Spells y (written c y)
    → written c x ≡ written c y → x ≡ y
one_value {A} c x y sx sy is =
    let same = ok_is (x, []) (y, [])
    (sym (c.laws.element.reading.again x (written c x) [] sx) ∙ (ap (λ t. c.at (t ++ [])) is ∙ c.laws.element.reading.again y (written c y) [] sy)) in
    ap (λ (p : A × List ℕ). p.0) same

chained_front : (check : List ℕ) (es all : List Entry) (part : List ℕ) → HaveElements es → HaveElements all → chained check es ++ part ≡ chained check all → (others : List Entry) × (all ≡ es ++ others)
chained_front check [] all part has have is = (all, refl)
chained_front check (e ∷ es) [] part has have is =
    absurd (checked_some check (w e) (chained (check_of check (w e)) es ++ part)
    (sym (append_assoc (checked check (w e)) (chained (check_of check (w e)) es) part) ∙ (ap (λ t. t ++ part) (sym (one_first check e es)) ∙ (is ∙ none_chained check))))
chained_front check (e ∷ es) (o ∷ os) part has have is =
    let he = have_first e es has in
    let ho = have_first o os have in
    let cut = one_checked check check (w e) (w o) (chained (check_of check (w e)) es ++ part) (chained (check_of check (w o)) os) he.0.1 ho.0.1
    (sym (append_assoc (checked check (w e)) (chained (check_of check (w e)) es) part) ∙ (ap (λ t. t ++ part) (sym (one_first check e es)) ∙ (is ∙ one_first check o os))) in
    let same : e ≡ o = one_value entry e o he.0.0 ho.0.0 cut.0 in
    let rest = chained_front (check_of check (w e)) es os part he.1 ho.1 (cut.1 ∙ ap (λ x. chained (check_of check (w x)) os) (sym same)) in
    (rest.0, ap (λ x. x ∷ os) (sym same) ∙ ap (λ l. e ∷ l) rest.1)

-- a journal whose text begins with that of another one
pub record IsOnward (j all : Journal) : Type 0 where
  pub header_is : all.header ≡ j.header
  pub others : List Entry
  pub entries_are : all.entries ≡ j.entries ++ others

pub onward : (text part : List ℕ) (j all : Journal) → Spells text j → Spells (text ++ part) all → IsOnward j all
onward text part j all a b =
    let first = checked j.header.link (written header j.header) in
    let whole : (first ++ (chained (header_check j.header) j.entries ++ part)) ≡ journal_text all.header all.entries =
    sym (append_assoc first (chained (header_check j.header) j.entries) part) ∙ (ap (λ t. t ++ part) (sym a.text_is) ∙ b.text_is) in
    let cut = one_checked j.header.link all.header.link (written header j.header) (written header all.header) (chained (header_check j.header) j.entries ++ part) (chained (header_check all.header) all.entries) a.has_header.1 b.has_header.1 whole in
    let same : j.header ≡ all.header = one_value header j.header all.header a.has_header.0 b.has_header.0 cut.0 in
    let rest = chained_front (header_check j.header) j.entries all.entries part a.have_elements b.have_elements (cut.1 ∙ ap (λ h. chained (header_check h) all.entries) (sym same)) in
    record { header_is = sym same; others = rest.0; entries_are = rest.1 }

none_left : (xs ys zs us : List Entry) → ys ≡ xs ++ zs → xs ≡ ys ++ us → zs ≡ []
none_left xs ys zs us a b =
    let la : length ys ≡ length (xs ++ zs) = ap length a in
    let lb : length xs ≡ length (ys ++ us) = ap length b in
    nil_from_length zs (omega (arith, la, lb, length-append xs zs, length-append ys us))

-- its sums are determined by the rest
pub same_journal : (j k : Journal) → HasSums j → HasSums k → j.header ≡ k.header → j.entries ≡ k.entries → j.check ≡ k.check → j ≡ k
same_journal j k a b h e c =
    let latest : j.latest ≡ k.latest = a.latest_is ∙ (ap (λ x. latest_of x.at j.entries) h ∙ (ap (λ es. latest_of k.header.at es) e ∙ sym b.latest_is)) in
    let high : j.high ≡ k.high = a.high_is ∙ (ap (λ x. above_all x.floor j.entries) h ∙ (ap (λ es. above_all k.header.floor es) e ∙ sym b.high_is)) in
    λ i. record { header = h i; entries = e i; check = c i; latest = latest i; high = high i }

-- one text spells one journal
pub one_journal : (text : List ℕ) (j k : Journal) → Spells text j → Spells text k → k ≡ j
one_journal text j k a b =
    let on = onward text [] j k a (subst (λ t. Spells t k) (sym (append-nil text)) b) in
    let back = onward text [] k j b (subst (λ t. Spells t j) (sym (append-nil text)) a) in
    let none : on.others ≡ [] = none_left j.entries k.entries on.others back.others on.entries_are back.entries_are in
    let entries : k.entries ≡ j.entries = on.entries_are ∙ (ap (λ l. j.entries ++ l) none ∙ append-nil j.entries) in
    same_journal k j b.sums a.sums on.header_is entries
    (b.check_is ∙ (ap (λ h. last_check (header_check h) k.entries) on.header_is ∙ (ap (λ es. last_check (header_check j.header) es) entries ∙ sym a.check_is)))
