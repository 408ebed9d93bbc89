-- The stamps of a client. Those that are not below the floor are those of its replay cache.
use Rattle.std.proofs.Common.{◌≡◌, ℕ, zero, suc, ◌<◌, ◌≤◌, Bool, true, false, cond, ℤ, pos, ◌-ℤ◌, ◌≤ℤ◌, List, [], ◌∷◌, ◌++◌, length, get_or, drop, drop-cons, Option, Some, None, Equal, refl, sym, ap, subst, ◌∙◌, arith}
use Rattle.std.specs.Prelude.{⊤}
use Rattle.std.specs.Int.{int_max}
use Rattle.std.specs.List.{filter}
use Rattle.std.specs.Ordering.{eq_by_cmp}
use Rattle.std.specs.Cmp.{Equal-is}
use Rattle.std.specs.FinMap as map
use Rattle.std.specs.FinMap.{FinMap, same_map, get-insert, get-retain_keys, get-from_entries, get-entries}
use Rattle.std.proofs.lemmas.Int.{ints, clamps}
use Rattle.krb_fields.specs.Name.{name_cmp, name_total, name_exact}
use Rattle.krb_fields.specs.Skew.{skew}
use Rattle.replay.specs.Failures.{no_failures}
use Rattle.replay.specs.ReplayCache.{floor_at, recorded}
use Rattle.replay.specs.Stamp.{Stamp, stamp_cmp, is_from, is_beyond_clock_skew}
use Rattle.replay.specs.declared.cache.ReplayCache.{ReplayCache}
use Rattle.replay.proofs.Recording.{is_from_floor_at, retain_keys-insert}
use Rattle.replay.proofs.Stamps.{stamp_total, stamp_exact}
use Rattle.ap_accept.specs.Stamps.{Stamps, with_stamps, listed, cache_with}
use Rattle.ap_accept.proofs.DroppingExpired.{none_from}
use Rattle.ap_accept.proofs.Putting.{drop_all}
use Rattle.ap_accept.proofs.Raised.{retain_twice}

-- a map is that of its entries
pub entries_back : {V : Type 0} (m : FinMap name_cmp V) → map.from_entries {R = name_cmp} (map.entries m) ≡ m
entries_back m = same_map name_total name_exact _ _ (λ q. get-from_entries name_total (map.entries m) q ∙ sym (get-entries m q))

-- ---- recording

pub with_one : (m : Stamps) (stamps : List Stamp) (s : Stamp) → with_stamps m (stamps ++ s ∷ []) ≡ map.insert (with_stamps m stamps) s tt
unfolding with_stamps
with_one m [] s = refl
with_one m (x ∷ stamps) s = with_one (map.insert m x tt) stamps s

max_rises : (a b : ℤ) → a ≤ℤ int_max a b
max_rises a b = grind (arith, ints, clamps)

-- no stamps
pub none_listed : (floor : ℤ) → ◌≡◌ {A = ReplayCache ⊤} (record { failures = no_failures; floor = floor; pairs = map.empty }) (cache_with floor [])
unfolding with_stamps
none_listed floor = λ i. record { failures = no_failures; floor = floor; pairs = sym (none_from floor) i }

pub recorded_listed : (m : ReplayCache ⊤) (now : ℤ) (stamps : List Stamp) (s : Stamp) → is_beyond_clock_skew m.floor now s.0 ≡ false
    → m ≡ cache_with m.floor stamps → recorded m now s tt ≡ cache_with (floor_at m.floor now) (stamps ++ s ∷ [])
recorded_listed m now stamps s timely is =
    let high : ℤ = floor_at m.floor now in
    let all : Stamps = with_stamps map.empty stamps in
    let failures : m.failures ≡ no_failures = ap (λ (c : ReplayCache ⊤). c.failures) is in
    let old : m.pairs ≡ listed m.floor stamps = ap (λ (c : ReplayCache ⊤). c.pairs) is in
    let left : map.retain_keys m.pairs (is_from high) ≡ map.retain_keys all (is_from high) =
    ap (λ (p : Stamps). map.retain_keys p (is_from high)) old ∙ retain_twice all m.floor high (max_rises m.floor (now -ℤ pos skew)) in
    let pairs : map.insert (map.retain_keys m.pairs (is_from high)) s tt ≡ listed high (stamps ++ s ∷ []) =
    ap (λ (p : Stamps). map.insert p s tt) left
    ∙ sym (retain_keys-insert stamp_total stamp_exact (is_from high) all s tt (is_from_floor_at m.floor now s timely))
    ∙ ap (λ (p : Stamps). map.retain_keys p (is_from high)) (sym (with_one map.empty stamps s)) in
    λ i. record { failures = failures i; floor = high; pairs = pairs i }

-- ---- dropping stamps below the floor

by_tests : {V : Type 0} (same passes : Bool) (x y : Option V) → (same ≡ true → passes ≡ false) → cond passes (cond same x y) None ≡ cond passes y None
by_tests true true x y h = let e = h refl in cc
by_tests false true x y h = refl
by_tests same false x y h = refl

module _ (floor : ℤ) where
  alike : (q x : Stamp) → stamp_cmp q x ≡ Equal → is_from floor x ≡ is_from floor q
  alike q x t = ap (is_from floor) (sym (stamp_exact q x t))

  -- one below the floor makes no difference
  none_more : (m : Stamps) (s : Stamp) → is_from floor s ≡ false → map.retain_keys (map.insert m s tt) (is_from floor) ≡ map.retain_keys m (is_from floor)
  none_more m s low = same_map stamp_total stamp_exact _ _ (λ q.
      get-retain_keys (map.insert m s tt) (is_from floor) q (alike q)
      ∙ ap (λ f. cond (is_from floor q) f None) (get-insert stamp_total m s tt q)
      ∙ by_tests (eq_by_cmp stamp_cmp q s) (is_from floor q) (Some tt) (map.get m q) (λ e. ap (is_from floor) (stamp_exact q s ((Equal-is (stamp_cmp q s)).0 e)) ∙ low)
      ∙ sym (get-retain_keys m (is_from floor) q (alike q)))

  abbrev Left : Stamps → Stamps
  Left m = map.retain_keys m (is_from floor)

  filter_step : (m n : Stamps) (s : Stamp) (stamps : List Stamp) (b : Bool) → is_from floor s ≡ b
      → ((m n : Stamps) → Left m ≡ Left n → Left (with_stamps m (filter (is_from floor) stamps)) ≡ Left (with_stamps n stamps))
      → Left m ≡ Left n
      → Left (with_stamps m (cond b (s ∷ filter (is_from floor) stamps) (filter (is_from floor) stamps))) ≡ Left (with_stamps (map.insert n s tt) stamps)
  unfolding with_stamps
  filter_step m n s stamps true e go same =
      go (map.insert m s tt) (map.insert n s tt)
      (retain_keys-insert stamp_total stamp_exact (is_from floor) m s tt e ∙ ap (λ (p : Stamps). map.insert p s tt) same
      ∙ sym (retain_keys-insert stamp_total stamp_exact (is_from floor) n s tt e))
  filter_step m n s stamps false e go same = go m (map.insert n s tt) (same ∙ sym (none_more n s e))

  filtered : (m n : Stamps) (stamps : List Stamp) → Left m ≡ Left n → Left (with_stamps m (filter (is_from floor) stamps)) ≡ Left (with_stamps n stamps)
  unfolding with_stamps
  filtered m n [] same = same
  filtered m n (s ∷ stamps) same = filter_step m n s stamps (is_from floor s) refl (λ p q. filtered p q stamps) same

  pub filtered_listed : (stamps : List Stamp) → cache_with floor stamps ≡ cache_with floor (filter (is_from floor) stamps)
  filtered_listed stamps = λ i. record { failures = no_failures; floor = floor; pairs = sym (filtered map.empty map.empty stamps refl) i }

-- ---- the replay cache of a client

pub empty_listed : (m : ReplayCache ⊤) (floor : ℤ) (stamps : List Stamp) → m ≡ record { failures = no_failures; floor = floor; pairs = map.empty } → stamps ≡ []
    → m ≡ cache_with m.floor stamps
empty_listed m floor stamps is none =
    is ∙ none_listed floor ∙ (λ i. cache_with (sym (ap (λ (c : ReplayCache ⊤). c.floor) is) i) (sym none i))

pub record_listed : (m old : ReplayCache ⊤) (now : ℤ) (s : Stamp) (stamps room new : List Stamp) → is_beyond_clock_skew old.floor now s.0 ≡ false → old ≡ cache_with old.floor stamps
    → m ≡ recorded old now s tt → room ≡ stamps → new ≡ room ++ s ∷ [] → m ≡ cache_with m.floor new
record_listed m old now s stamps room new timely was is same pushed =
    let all : new ≡ stamps ++ s ∷ [] = pushed ∙ ap (λ (l : List Stamp). l ++ s ∷ []) same in
    let floor : m.floor ≡ floor_at old.floor now = ap (λ (c : ReplayCache ⊤). c.floor) is in
    is ∙ recorded_listed old now stamps s timely was ∙ (λ i. cache_with (sym floor i) (sym all i))

pub shortened : (m : ReplayCache ⊤) (stamps left : List Stamp) → m ≡ cache_with m.floor stamps → left ≡ filter (is_from m.floor) stamps → m ≡ cache_with m.floor left
shortened m stamps left is cut = is ∙ filtered_listed m.floor stamps ∙ ap (cache_with m.floor) (sym cut)

-- ---- a loop over stamps

-- those so far, with those that are left, are all
abbrev pub Listing : Stamps → List Stamp → List Stamp → Type 0
Listing m left all = with_stamps m left ≡ with_stamps map.empty all

pub listing_from : (m : Stamps) (all : List Stamp) → m ≡ map.empty → Listing m all all
listing_from m all none = ap (λ (p : Stamps). with_stamps p all) none

pub listing_on : (m new : Stamps) (all : List Stamp) (i j : ℕ) (s : Stamp) → j ≡ suc i → s ≡ get_or all i s → i < length all → new ≡ map.insert m s tt
    → Listing m (drop i all) all → Listing new (drop j all) all
unfolding with_stamps
listing_on m new all i j s next is lt put so_far =
    let here : drop i all ≡ s ∷ drop (suc i) all = rw (drop-cons all i s) (ap (λ (x : Stamp). x ∷ drop (suc i) all) (sym is)) in
    subst (λ (k : ℕ). Listing new (drop k all) all) (sym next)
    (ap (λ (p : Stamps). with_stamps p (drop (suc i) all)) put ∙ ap (with_stamps m) (sym here) ∙ so_far)

get_or_any : (xs : List Stamp) (i : ℕ) (a b : Stamp) → i < length xs → get_or xs i a ≡ get_or xs i b
get_or_any [] i a b lt = absurd (omega arith)
get_or_any (x ∷ xs) zero a b lt = refl
get_or_any (x ∷ xs) (suc i) a b lt = get_or_any xs i a b (omega arith)

pub listing_at : (m new : Stamps) (all : List Stamp) (i j : ℕ) (d : Stamp) → j ≡ suc i → i < length all → new ≡ map.insert m (get_or all i d) tt
    → Listing m (drop i all) all → Listing new (drop j all) all
listing_at m new all i j d next lt put so_far = listing_on m new all i j (get_or all i d) next (get_or_any all i d (get_or all i d) lt) lt put so_far

pub listing_done : (m : Stamps) (all : List Stamp) (i : ℕ) → length all ≤ i → Listing m (drop i all) all → m ≡ with_stamps map.empty all
unfolding with_stamps
listing_done m all i le so_far = ap (with_stamps m) (sym (drop_all all i le)) ∙ so_far
