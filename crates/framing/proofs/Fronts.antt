-- The front of a stream, and of a longer one.
use Rattle.std.proofs.Common.{◌≡◌, ℕ, ◌+◌, ◌<◌, ◌≤◌, Bool, true, false, cond, List, ◌++◌, length, take, drop, Option, Some, None, Ok, Err, refl, sym, ap, ◌∙◌, arith, length-append, length-drop, get_or, append_assoc}
use Rattle.std.specs.Prelude.{nat_lt, nat_le}
use Rattle.std.specs.Int.{w32, from_be_bytes}
use Rattle.std.specs.List.{All}
use Rattle.std.proofs.lemmas.Bool.{ltb-false, le-ltb, ltb-true, leb-false, lt-leb}
use Rattle.std.proofs.lemmas.List.{take-append-le, drop-append-le, length-take-le, take_at, drop_at, take-append-drop, drop-drop, get_or_past}
use Rattle.std.proofs.lemmas.List.Elements.{All-get_or, All-take}
use Rattle.std.proofs.lemmas.Nat.{from_be_bytes-to_be_bytes_4, be_bytes_4}
use Rattle.framing.specs.declared.fault.FrameFault.{FrameFault}
use Rattle.framing.specs.declared.fault.FrameFault.TheVariants.{HighBit, TooLong}
use Rattle.framing.specs.Stream.{Front, front, framed, high_bit, judged, length_octets}
use Rattle.framing.specs.Messages.{IsMessage}

-- This message passes the tests of the front.
record Passes (g : ℕ) (b m : List ℕ) : Type 0 where
  pub four : 4 ≤ length b
  pub low : from_be_bytes w32 (take 4 b) < high_bit
  pub within : from_be_bytes w32 (take 4 b) ≤ g
  pub there : from_be_bytes w32 (take 4 b) ≤ length (drop 4 b)
  pub is : take (from_be_bytes w32 (take 4 b)) (drop 4 b) ≡ m

four_tests : (p q r s : Bool) (x m : List ℕ) → cond p (Ok None) (cond q (Err HighBit) (cond r (Err TooLong) (Ok (cond s None (Some x))))) ≡ Ok (Some m)
    → (p ≡ false) × (q ≡ false) × (r ≡ false) × (s ≡ false) × (x ≡ m)
four_tests true q r s x m e = absurd cc
four_tests false true r s x m e = absurd cc
four_tests false false true s x m e = absurd cc
four_tests false false false true x m e = absurd cc
four_tests false false false false x m e = (refl, refl, refl, refl, cc)

passes : (g : ℕ) (b m : List ℕ) → front g b ≡ Ok (Some m) → Passes g b m
unfolding front
passes g b m e =
    let n = from_be_bytes w32 (take 4 b) in
    let t = four_tests (nat_lt (length b) 4) (nat_le high_bit n) (nat_lt g n) (nat_lt (length (drop 4 b)) n) (take n (drop 4 b)) m e in
    record {
      four = ltb-false (length b) 4 t.0;
      low = leb-false high_bit n t.1;
      within = ltb-false g n t.2;
      there = ltb-false (length (drop 4 b)) n t.3;
      is = t.4;
    }

passed : (g : ℕ) (b m : List ℕ) → Passes g b m → front g b ≡ Ok (Some m)
unfolding front
passed g b m p =
    let n = from_be_bytes w32 (take 4 b) in
    rw (le-ltb (length b) 4 p.four, lt-leb high_bit n p.low, le-ltb g n p.within, le-ltb (length (drop 4 b)) n p.there, p.is) refl

-- a message is as long as its length says
message_length : (g : ℕ) (b m : List ℕ) → Passes g b m → length m ≡ from_be_bytes w32 (take 4 b)
message_length g b m p = ap length (sym p.is) ∙ length-take-le _ (drop 4 b) p.there

pub message_within : (g : ℕ) (b m : List ℕ) → front g b ≡ Ok (Some m) → 4 + length m ≤ length b
message_within g b m e =
    let p = passes g b m e in
    omega (arith, message_length g b m p, length-drop 4 b, p.there, p.four)

-- later bytes don't change a message
pub front_more : (g : ℕ) (b m more : List ℕ) → front g b ≡ Ok (Some m) → front g (b ++ more) ≡ Ok (Some m)
front_more g b m more e =
    let p = passes g b m e in
    let first : take 4 (b ++ more) ≡ take 4 b = take-append-le 4 b more p.four in
    let others : drop 4 (b ++ more) ≡ drop 4 b ++ more = drop-append-le 4 b more p.four in
    passed g (b ++ more) m record {
      four = omega (arith, length-append b more, p.four);
      low = rw first p.low;
      within = rw first p.within;
      there = rw (first, others) (omega (arith, length-append (drop 4 b) more, p.there));
      is = rw (first, others) (take-append-le _ (drop 4 b) more p.there ∙ p.is);
    }

first_test : (p : Bool) (x : Front) (fault : FrameFault) → cond p (Ok None) x ≡ Err fault → (p ≡ false) × (x ≡ Err fault)
first_test true x fault e = absurd cc
first_test false x fault e = (refl, e)

fault_tests : (q r : Bool) (x y : Option (List ℕ)) (fault : FrameFault) → cond q (Err HighBit) (cond r (Err TooLong) (Ok x)) ≡ Err fault → cond q (Err HighBit) (cond r (Err TooLong) (Ok y)) ≡ Err fault
fault_tests true r x y fault e = e
fault_tests false true x y fault e = e
fault_tests false false x y fault e = absurd cc

-- or an error
pub fault_more : (g : ℕ) (b more : List ℕ) (fault : FrameFault) → front g b ≡ Err fault → front g (b ++ more) ≡ Err fault
unfolding front
fault_more g b more fault e =
    let n = from_be_bytes w32 (take 4 b) in
    let t = first_test (nat_lt (length b) 4) (judged g n (drop 4 b)) fault e in
    let four : 4 ≤ length b = ltb-false (length b) 4 t.0 in
    rw (le-ltb (length (b ++ more)) 4 (omega (arith, length-append b more, four)), take-append-le 4 b more four, drop-append-le 4 b more four)
    (fault_tests (nat_le high_bit n) (nat_lt g n) _ _ fault t.1)

-- Messages after their lengths.

length-length_octets : (n : ℕ) → length (length_octets n) ≡ 4
unfolding length_octets
length-length_octets n = refl

from_be_bytes-length_octets : (n : ℕ) → n < high_bit → from_be_bytes w32 (length_octets n) ≡ n
unfolding length_octets
from_be_bytes-length_octets n h = from_be_bytes-to_be_bytes_4 n (omega (arith, h))

octet_at : (b : List ℕ) (i : ℕ) → All (λ octet. octet < 256) b → get_or b i 0 < 256
octet_at b i octets = by_cases (nat_lt i (length b)) refl where
  by_cases : (t : Bool) → nat_lt i (length b) ≡ t → get_or b i 0 < 256
  by_cases true e = All-get_or (λ octet. octet < 256) b i 0 (ltb-true i (length b) e) octets
  by_cases false e = rw (get_or_past b i 0 (ltb-false i (length b) e)) (omega arith)

length_octets-from_be_bytes : (b : List ℕ) (n : ℕ) → length b ≡ 4 → All (λ octet. octet < 256) b → n ≡ from_be_bytes w32 b → length_octets n ≡ b
unfolding length_octets
length_octets-from_be_bytes b n four octets e = be_bytes_4 b n four (λ i. octet_at b i octets) e

behind : (g : ℕ) (p m more : List ℕ) → length p ≡ 4 → from_be_bytes w32 p ≡ length m → IsMessage g m → front g (p ++ (m ++ more)) ≡ Ok (Some m)
behind g p m more four says h =
    let first : take 4 (p ++ (m ++ more)) ≡ p = take_at p (m ++ more) 4 four in
    let others : drop 4 (p ++ (m ++ more)) ≡ m ++ more = drop_at p (m ++ more) 4 four in
    passed g (p ++ (m ++ more)) m record {
      four = omega (arith, length-append p (m ++ more), four);
      low = rw (first, says) h.0;
      within = rw (first, says) h.1;
      there = rw (first, others, says) (omega (arith, length-append m more));
      is = rw (first, others, says) (take_at m more (length m) refl);
    }

-- a framed message is the front
pub front-framed : (g : ℕ) (m more : List ℕ) → IsMessage g m → front g (framed m ++ more) ≡ Ok (Some m)
front-framed g m more h =
    rw (append_assoc (length_octets (length m)) m more)
    (behind g (length_octets (length m)) m more (length-length_octets (length m)) (from_be_bytes-length_octets (length m) h.0) h)

pub drop-framed : (m more : List ℕ) → drop (4 + length m) (framed m ++ more) ≡ more
drop-framed m more = drop_at (framed m) more (4 + length m) (length-append (length_octets (length m)) m ∙ ap (λ n. n + length m) (length-length_octets (length m)))

-- what precedes the rest is the message after its length
pub framed_then : (g : ℕ) (b m : List ℕ) → All (λ octet. octet < 256) b → front g b ≡ Ok (Some m) → (b ≡ framed m ++ drop (4 + length m) b) × IsMessage g m
framed_then g b m octets e =
    let p = passes g b m e in
    let n : length m ≡ from_be_bytes w32 (take 4 b) = message_length g b m p in
    let prefix : length_octets (length m) ≡ take 4 b = length_octets-from_be_bytes (take 4 b) (length m) (length-take-le 4 b p.four) (All-take (λ octet. octet < 256) 4 b octets) n in
    let message : take (length m) (drop 4 b) ≡ m = ap (λ k. take k (drop 4 b)) n ∙ p.is in
    let behind_it : drop 4 b ≡ m ++ drop (4 + length m) b =
    sym (take-append-drop (length m) (drop 4 b)) ∙ ap (λ t. t ++ drop (length m) (drop 4 b)) message ∙ ap (λ t. m ++ t) (drop-drop (length m) 4 b) in (
      sym (take-append-drop 4 b) ∙ ap (λ t. t ++ drop 4 b) (sym prefix) ∙ ap (λ t. length_octets (length m) ++ t) behind_it ∙ sym (append_assoc (length_octets (length m)) m _),
      (omega (arith, n, p.low), omega (arith, n, p.within)),
    )
