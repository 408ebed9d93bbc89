-- A replay cache as seen from a second on: its floor raised to that second, without the pairs below it.
use Rattle.std.proofs.Common.{◌≡◌, ℕ, ℤ, pos, ◌-ℤ◌, ◌≤ℤ◌, Bool, true, false, cond, not, ◌||◌, nat_le, nat_lt, Option, None, Equal, refl, sym, ap, ◌∙◌, arith}
use Rattle.std.specs.Prelude.{⊤, int_lt, unsigned_abs, if◌then◌else◌}
use Rattle.std.specs.Int.{int_max}
use Rattle.std.specs.FinMap.{FinMap, same_map, get-retain_keys}
use Rattle.std.specs.FinMap as map
use Rattle.std.proofs.lemmas.Int.{ints, clamps}
use Rattle.std.proofs.lemmas.Bool.Decides.{nat_tests}
use Rattle.krb_fields.specs.Skew.{skew}
use Rattle.replay.specs.ReplayCache.{floor_at, if_kept, recorded, verdict}
use Rattle.replay.specs.Stamp.{Stamp, stamp_cmp, is_from, is_beyond_clock_skew}
use Rattle.replay.specs.declared.cache.ReplayCache.{ReplayCache}
use Rattle.replay.specs.declared.verdict.Verdict.{Verdict}
use Rattle.replay.specs.declared.verdict.Verdict.TheVariants.{Fresh, Skew, Full}
use Rattle.replay.proofs.Stamps.{stamp_total, stamp_exact}
use Rattle.ap_accept.specs.Clients.{SaysTheSame, floor_for, hour}

abbrev Pairs : Type 0
Pairs = FinMap stamp_cmp ⊤

-- a floor, and pairs
abbrev pub View : Type 0
View = ℤ × Pairs

abbrev pub further : ℤ → View → View
further second v = (int_max v.0 second, map.retain_keys v.1 (is_from (int_max v.0 second)))

abbrev pub raised : ℤ → ReplayCache ⊤ → View
raised second m = further second (m.floor, m.pairs)

-- ---- raised twice

nested : {V : Type 0} (a b : Bool) (o : Option V) → (a ≡ true → b ≡ true) → cond a (cond b o None) None ≡ cond a o None
nested true true o h = refl
nested true false o h = let e = h refl in cc
nested false b o h = refl

higher : (low high ctime : ℤ) → low ≤ℤ high → not (int_lt ctime high) ≡ true → not (int_lt ctime low) ≡ true
higher low high ctime le h = grind (arith, ints)

alike : (second : ℤ) (q x : Stamp) → stamp_cmp q x ≡ Equal → is_from second x ≡ is_from second q
alike second q x t = ap (is_from second) (sym (stamp_exact q x t))

pub retain_twice : (m : Pairs) (low high : ℤ) → low ≤ℤ high → map.retain_keys (map.retain_keys m (is_from low)) (is_from high) ≡ map.retain_keys m (is_from high)
retain_twice m low high le = same_map stamp_total stamp_exact _ _ (λ q.
    get-retain_keys (map.retain_keys m (is_from low)) (is_from high) q (alike high q)
    ∙ ap (λ o. cond (is_from high q) o None) (get-retain_keys m (is_from low) q (alike low q))
    ∙ nested (is_from high q) (is_from low q) (map.get m q) (higher low high q.0 le)
    ∙ sym (get-retain_keys m (is_from high) q (alike high q)))

max_twice : (floor low high : ℤ) → low ≤ℤ high → int_max floor high ≡ int_max (int_max floor low) high
max_twice floor low high le = grind (arith, ints, clamps)

max_rises : (floor low high : ℤ) → low ≤ℤ high → int_max floor low ≤ℤ int_max floor high
max_rises floor low high le = grind (arith, ints, clamps)

-- raising it to a lower second first makes no difference
pub further_twice : (low high : ℤ) (v : View) → low ≤ℤ high → further high v ≡ further high (further low v)
further_twice low high v le =
    let floor : int_max v.0 high ≡ int_max (int_max v.0 low) high = max_twice v.0 low high le in
    let pairs : map.retain_keys v.1 (is_from (int_max v.0 high)) ≡ map.retain_keys (map.retain_keys v.1 (is_from (int_max v.0 low))) (is_from (int_max (int_max v.0 low) high)) =
    sym (retain_twice v.1 (int_max v.0 low) (int_max v.0 high) (max_rises v.0 low high le))
    ∙ ap (λ f. map.retain_keys (map.retain_keys v.1 (is_from (int_max v.0 low))) (is_from f)) floor in
    λ i. (floor i, pairs i)

-- so two that agree from a second on agree from every later one
pub alike_on : (low high : ℤ) (v w : View) → low ≤ℤ high → further low v ≡ further low w → further high v ≡ further high w
alike_on low high v w le same = further_twice low high v le ∙ ap (further high) same ∙ sym (further_twice low high w le)

-- ---- its verdict on an authenticator

-- the verdict within the clock skew
abbrev compared : View → ℤ → Stamp → ℕ → Verdict ⊤
compared v now stamp limit = if_kept (map.get v.1 stamp) (if nat_le limit (map.len (map.retain_keys v.1 (is_from (floor_at v.0 now)))) then Full else Fresh)

abbrev seen : View → ℤ → Stamp → ℕ → Verdict ⊤
seen v now stamp limit = if is_beyond_clock_skew v.0 now stamp.0 then Skew else compared v now stamp limit

not_far : (far low : Bool) → (far || low) ≡ false → far ≡ false
not_far true low e = cc
not_far false low e = refl

not_low : (far low : Bool) → (far || low) ≡ false → low ≡ false
not_low true low e = cc
not_low false low e = e

not_early : (now ctime : ℤ) → nat_lt skew (unsigned_abs (ctime -ℤ now)) ≡ false → (now -ℤ pos skew) ≤ℤ ctime
not_early now ctime h = grind (arith, ints, nat_tests)

still_low : (floor second ctime : ℤ) → int_lt ctime floor ≡ true → int_lt ctime (int_max floor second) ≡ true
still_low floor second ctime h = grind (arith, ints, clamps)

still_high : (floor second ctime : ℤ) → second ≤ℤ ctime → int_lt ctime floor ≡ false → int_lt ctime (int_max floor second) ≡ false
still_high floor second ctime le h = grind (arith, ints, clamps)

le_then : (a b c : ℤ) → a ≤ℤ b → b ≤ℤ c → a ≤ℤ c
le_then a b c p q = omega (arith, ints)

module _ (second now : ℤ) (v : View) (stamp : Stamp) (le : second ≤ℤ (now -ℤ pos skew)) where
  same_low : nat_lt skew (unsigned_abs (stamp.0 -ℤ now)) ≡ false → (b : Bool) → int_lt stamp.0 v.0 ≡ b → int_lt stamp.0 (int_max v.0 second) ≡ b
  same_low near true e = still_low v.0 second stamp.0 e
  same_low near false e = still_high v.0 second stamp.0 (le_then second (now -ℤ pos skew) stamp.0 le (not_early now stamp.0 near)) e

  same_skew : (b : Bool) → nat_lt skew (unsigned_abs (stamp.0 -ℤ now)) ≡ b → (b || int_lt stamp.0 (int_max v.0 second)) ≡ (b || int_lt stamp.0 v.0)
  same_skew true e = refl
  same_skew false e = same_low e (int_lt stamp.0 v.0) refl

  same_pair : is_beyond_clock_skew v.0 now stamp.0 ≡ false → map.get (further second v).1 stamp ≡ map.get v.1 stamp
  same_pair timely =
      let far = nat_lt skew (unsigned_abs (stamp.0 -ℤ now)) in
      let near : far ≡ false = not_far far (int_lt stamp.0 v.0) timely in
      let high : int_lt stamp.0 (int_max v.0 second) ≡ false = same_low near false (not_low far (int_lt stamp.0 v.0) timely) in
      get-retain_keys v.1 (is_from (int_max v.0 second)) stamp (alike (int_max v.0 second) stamp) ∙ ap (λ b. cond (not b) (map.get v.1 stamp) None) high

  -- the verdict doesn't change from the second on, with the clock skew
  seen_further : (limit : ℕ) → seen (further second v) now stamp limit ≡ seen v now stamp limit
  seen_further limit = ap (λ b. cond b Skew (compared (further second v) now stamp limit)) same ∙ at (is_beyond_clock_skew v.0 now stamp.0) refl
    where
      same : is_beyond_clock_skew (int_max v.0 second) now stamp.0 ≡ is_beyond_clock_skew v.0 now stamp.0
      same = same_skew (nat_lt skew (unsigned_abs (stamp.0 -ℤ now))) refl

      left : (further (now -ℤ pos skew) (further second v)).1 ≡ (further (now -ℤ pos skew) v).1
      left = ap (λ (w : View). w.1) (sym (further_twice second (now -ℤ pos skew) v le))

      at : (b : Bool) → is_beyond_clock_skew v.0 now stamp.0 ≡ b → cond b Skew (compared (further second v) now stamp limit) ≡ cond b Skew (compared v now stamp limit)
      at true e = refl
      at false e = λ i. if_kept (same_pair e i) (if nat_le limit (map.len (left i)) then Full else Fresh)

pub says_the_same : (second now : ℤ) (a b : ReplayCache ⊤) (stamp : Stamp) (limit : ℕ) → second ≤ℤ (now -ℤ pos skew) → raised second a ≡ raised second b → verdict a now stamp limit ≡ verdict b now stamp limit
says_the_same second now a b stamp limit le same =
    sym (seen_further second now (a.floor, a.pairs) stamp le limit) ∙ ap (λ v. seen v now stamp limit) same ∙ seen_further second now (b.floor, b.pairs) stamp le limit

an_hour : (at now : ℤ) → (at -ℤ pos hour) ≤ℤ now → floor_for at ≤ℤ (now -ℤ pos skew)
an_hour at now le = omega (arith, ints)

-- ---- after a call

pub same_from : (at : ℤ) (a b : ReplayCache ⊤) → raised (floor_for at) a ≡ raised (floor_for at) b → SaysTheSame (at -ℤ pos hour) a b
same_from at a b same now stamp limit le = says_the_same (floor_for at) now a b stamp limit (an_hour at now le) same

-- recording preserves agreement
pub recorded_alike : (second now : ℤ) (a b : ReplayCache ⊤) (stamp : Stamp) → second ≤ℤ (now -ℤ pos skew) → raised second a ≡ raised second b
    → (high : ℤ) → raised high (recorded a now stamp tt) ≡ raised high (recorded b now stamp tt)
recorded_alike second now a b stamp le same high =
    ap (λ (v : View). further high (v.0, map.insert v.1 stamp tt)) (alike_on second (now -ℤ pos skew) (a.floor, a.pairs) (b.floor, b.pairs) le same)
