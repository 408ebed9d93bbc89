-- The parts of a keytab, from its first byte to its end.
use Rattle.std.proofs.Common.{◌≡◌, ◌∙◌, ◌⊎◌, ℕ, ◌^◌, ◌-◌, ◌+◌, ◌<◌, ◌≤◌, List, [], ◌∷◌, ◌++◌, Option, Some, None, IfSome, IfNone, append_assoc, ap, arith, drop, length, refl, subst, sym, take, inl, inr, w32}
use Rattle.std.specs.Int.{from_be_bytes, to_be_bytes}
use Rattle.std.specs.Borrow.{Bor}
use Rattle.std.proofs.lemmas.List.{length-append}
use Rattle.std.proofs.Math.ListN.{drop_of_length-le}
use Rattle.std.proofs.lemmas.Nat.{from_be_bytes-to_be_bytes_4}
use Rattle.std.proofs.Math.Seq.{drop-append_seam, take-append_seam}
use Rattle.krb_elements.specs.Spells.{Items}
use Rattle.cred_files.specs.Keytab.{IsEnd, IsKeytab, IsPart}
use Rattle.cred_files.specs.declared.keytab_entry.KeytabEntry.{KeytabEntry}
use Rattle.kadm_changes.specs.Keytabs.{EndsIn, IsKept, IsSize}

-- bytes that begin with a part
record Begins (octets end : List ℕ) : Type 0 where
  number : ℕ
  content : List ℕ
  more : List ℕ
  some : 0 < number
  small : number < 4294967296
  size : IsSize number (length content)
  all : octets ≡ to_be_bytes w32 number ++ (content ++ more)
  rest : EndsIn more end

part_begins : (found : Option KeytabEntry) (front more octets end : List ℕ) → IsPart found front → EndsIn more end → octets ≡ front ++ more
    → Begins octets end
part_begins found front more octets end (inl (content, some, short, is, all)) rest whole = record {
  number = length content;
  content = content;
  more = more;
  some = some;
  small = omega (arith, short);
  size = inl (short, refl);
  all = whole ∙ ap (λ f. f ++ more) all ∙ append_assoc (to_be_bytes w32 (length content)) content more;
  rest = rest;
}
part_begins found front more octets end (inr ((content, some, short, all), none)) rest whole = record {
  number = 4294967296 - length content;
  content = content;
  more = more;
  some = omega (arith, short);
  small = omega (arith, some, short);
  size = inr (omega (arith, short), omega (arith, short));
  all = whole ∙ ap (λ f. f ++ more) all ∙ append_assoc (to_be_bytes w32 (4294967296 - length content)) content more;
  rest = rest;
}

-- bytes are the end, or begin with a part
parts_begin : (parts : List (Option KeytabEntry)) (text octets end : List ℕ) → Items IsPart parts text → IsEnd end → octets ≡ text ++ end
    → (octets ≡ end) ⊎ Begins octets end
parts_begin [] text octets end none ends all = inl (all ∙ ap (λ t. t ++ end) none)
parts_begin (part ∷ parts) text octets end (front, back, is, later, joined) ends all =
    inr (part_begins part front (back ++ end) octets end is (record { parts = parts; text = back; spells = later; ends = ends; all = refl })
    (all ∙ ap (λ t. t ++ end) joined ∙ append_assoc front back end))

begins : (octets end : List ℕ) → EndsIn octets end → (octets ≡ end) ⊎ Begins octets end
begins octets end is = parts_begin is.parts is.text octets end is.spells is.ends is.all

-- ---- a part's number and content

number_at : (octets end : List ℕ) (b : Begins octets end) → from_be_bytes w32 (take 4 octets) ≡ b.number
number_at octets end b =
    ap (λ o. from_be_bytes w32 (take 4 o)) b.all
    ∙ ap (from_be_bytes w32) (take-append_seam (to_be_bytes w32 b.number) (b.content ++ b.more)) ∙ from_be_bytes-to_be_bytes_4 b.number b.small

behind_at : (octets end : List ℕ) (b : Begins octets end) → drop 4 octets ≡ b.content ++ b.more
behind_at octets end b = ap (drop 4) b.all ∙ drop-append_seam (to_be_bytes w32 b.number) (b.content ++ b.more)

long : (octets end : List ℕ) (b : Begins octets end) → 4 ≤ length octets
long octets end b =
    let all : length octets ≡ 4 + length (b.content ++ b.more) = ap length b.all ∙ length-append (to_be_bytes w32 b.number) (b.content ++ b.more) in
    omega (arith, all)

same_size : (n a b : ℕ) → IsSize n a → IsSize n b → a ≡ b
same_size n a b (inl (small, is)) (inl (low, at)) = is ∙ sym at
same_size n a b (inr (large, is)) (inr (high, at)) = omega (arith, is, at)
same_size n a b (inl (small, is)) (inr (high, at)) = absurd (omega (arith, small, high))
same_size n a b (inr (large, is)) (inl (low, at)) = absurd (omega (arith, large, low))

-- ---- what a look at the first four bytes says

no_number : (octets : List ℕ) (n : ℕ) → IsEnd octets → n ≡ from_be_bytes w32 (take 4 octets) → n ≡ 0
no_number octets n (inl none) is = is ∙ ap (λ o. from_be_bytes w32 (take 4 o)) none
no_number octets n (inr (rest, zeros)) is = is ∙ ap (λ o. from_be_bytes w32 (take 4 o)) zeros

is_end : (octets end : List ℕ) → EndsIn octets end → octets ≡ end → IsEnd octets
is_end octets end is same = subst IsEnd (sym same) is.ends

-- there is a part, and what is behind it has the same end
goes : (octets end behind : List ℕ) (n size : ℕ) → EndsIn octets end → n ≡ from_be_bytes w32 (take 4 octets) → (n ≡ 0 → ⊥) → IsSize n size
    → behind ≡ drop size (drop 4 octets) → EndsIn behind end
goes octets end behind n size is number there sized left = by (begins octets end is)
  where
    by : (octets ≡ end) ⊎ Begins octets end → EndsIn behind end
    by (inl same) = absurd (there (no_number octets n (is_end octets end is same) number))
    by (inr b) =
        let at : n ≡ b.number = number ∙ number_at octets end b in
        let long : size ≡ length b.content = same_size b.number size (length b.content) (subst (λ m. IsSize m size) at sized) b.size in
        let whole : behind ≡ b.more = left ∙ ap (λ o. drop size o) (behind_at octets end b) ∙ ap (λ k. drop k (b.content ++ b.more)) long ∙ drop-append_seam b.content b.more in
        subst (λ o. EndsIn o end) (sym whole) b.rest

-- there is no part
pub stops_short : (octets end : List ℕ) → length octets < 4 → EndsIn octets end → octets ≡ end
stops_short octets end short is = by (begins octets end is)
  where
    by : (octets ≡ end) ⊎ Begins octets end → octets ≡ end
    by (inl same) = same
    by (inr b) = absurd (omega (arith, short, long octets end b))

pub stops_zero : (octets end : List ℕ) (n : ℕ) → n ≡ from_be_bytes w32 (take 4 octets) → n ≡ 0 → EndsIn octets end → octets ≡ end
stops_zero octets end n number zero is = by (begins octets end is)
  where
    by : (octets ≡ end) ⊎ Begins octets end → octets ≡ end
    by (inl same) = same
    by (inr b) = absurd (omega (arith, b.some, sym zero ∙ number ∙ number_at octets end b))

stops_cut : (octets end : List ℕ) (n size : ℕ) → n ≡ from_be_bytes w32 (take 4 octets) → IsSize n size → length (drop 4 octets) < size → EndsIn octets end → octets ≡ end
stops_cut octets end n size number sized cut is = by (begins octets end is)
  where
    by : (octets ≡ end) ⊎ Begins octets end → octets ≡ end
    by (inl same) = same
    by (inr b) =
        let at : n ≡ b.number = number ∙ number_at octets end b in
        let long : size ≡ length b.content = same_size b.number size (length b.content) (subst (λ m. IsSize m size) at sized) b.size in
        let left : length (drop 4 octets) ≡ length b.content + length b.more = ap length (behind_at octets end b) ∙ length-append b.content b.more in
        absurd (omega (arith, cut, long, left))

-- what is found behind the number
pub part_goes : (found : Option (Bor (List ℕ))) (octets rest : List ℕ) (n size : ℕ) → n ≡ from_be_bytes w32 (take 4 octets) → (n ≡ 0 → ⊥) → IsSize n size
    → rest ≡ drop 4 octets → IfSome found (λ behind. behind.now ≡ drop size rest)
    → IfSome found (λ behind. (end : List ℕ) → EndsIn octets end → EndsIn behind.now end)
part_goes None octets rest n size number there sized left behind = tt
part_goes (Some found) octets rest n size number there sized left behind =
    λ end is. goes octets end found.now n size is number there sized (behind ∙ ap (drop size) left)

pub part_stops : (found : Option (Bor (List ℕ))) (octets rest : List ℕ) (n size : ℕ) → n ≡ from_be_bytes w32 (take 4 octets) → IsSize n size
    → rest ≡ drop 4 octets → IfNone found (length rest < size) → IfNone found ((end : List ℕ) → EndsIn octets end → octets ≡ end)
part_stops (Some found) octets rest n size number sized left cut = tt
part_stops None octets rest n size number sized left cut =
    λ end is. stops_cut octets end n size number sized (subst (λ o. length o < size) left cut) is

-- ---- a keytab without its end

-- too few bytes for a part
none_left : (octets text end : List ℕ) → length octets < 2 → drop 2 octets ≡ text ++ end → 0 ≡ length end
none_left octets text end short is =
    let left : drop 2 octets ≡ [] = drop_of_length-le octets {i = 2} (omega (arith, short)) in
    let size : 0 ≡ length text + length end = ap length (sym left ∙ is) ∙ length-append text end in
    omega (arith, size)

pub no_end : (octets : List ℕ) → length octets < 2 → (end : List ℕ) → EndsIn (drop 2 octets) end → 0 ≡ length end
no_end octets short end is = none_left octets is.text end short is.all

pub kept : (keytab : List KeytabEntry) (octets front : List ℕ) (end : ℕ) → IsKeytab keytab octets → ((e : List ℕ) → EndsIn (drop 2 octets) e → end ≡ length e)
    → front ≡ take (length octets - end) octets → IsKept octets front
kept keytab octets front end is found cut =
    let ends : end ≡ length is.end = found is.end (record { parts = is.parts; text = is.front; spells = is.spells; ends = is.ends; all = ap (drop 2) is.all }) in
    let size : length octets ≡ length (5 ∷ 2 ∷ is.front) + length is.end = ap length is.all ∙ length-append (5 ∷ 2 ∷ is.front) is.end in
    let left : length octets - end ≡ length (5 ∷ 2 ∷ is.front) = omega (arith, size, ends) in
    record {
      parts = is.parts;
      text = is.front;
      spells = is.spells;
      front_is = cut ∙ ap (λ k. take k octets) left ∙ ap (take (length (5 ∷ 2 ∷ is.front))) is.all ∙ take-append_seam (5 ∷ 2 ∷ is.front) is.end;
      end = is.end;
      ends = is.ends;
      all = is.all;
    }
