-- The least key of a chain over the table belongs to the connection that has been idle longest.
use Rattle.std.proofs.Common.{◌≡◌, ℕ, ◌≤◌, Bool, true, false, cond, List, [], ◌∷◌, map, length, not, Option, Some, None, refl, ap, ◌∙◌, sym, subst, arith, Bor}
use Rattle.std.specs.Prelude.{IsSomeAnd, IfSome}
use Rattle.std.specs.Bool.{beq}
use Rattle.std.specs.BTreeMap.{BTreeMap, IsOrdered, is_at}
use Rattle.std.specs.Fn.{CalledAt}
use Rattle.std.specs.Iterator.{DrainsIf}
use Rattle.std.specs.Iterator.Runs.{Run, WholeRun, AnyItem, NoKeyBeyond, YieldsRun, CallKeepsClosure}
use Rattle.std.specs.List.{AllByRecursion, filter, slice_get}
use Rattle.std.specs.Map.{values_of}
use Rattle.std.specs.Map.Iter.{deref_pair}
use Rattle.std.specs.Option.{option_map}
use Rattle.std.specs.Ordering.{nat_cmp, ordering_then, is_lt, is_eq}
use Rattle.std.specs.Time.{instant_nanos}
use Rattle.std.specs.declared.time.Instant.{Instant}
use Rattle.std.specs.declared.cmp.Ordering.{Ordering}
use Rattle.std.specs.declared.cmp.Ordering.TheVariants.{Less, Equal, Greater}
use Rattle.std.proofs.lemmas.Cmp.{ranked, by_ranked, nat_cmp_total, tied_itself}
use Rattle.std.proofs.lemmas.Iterator.{YieldsList, items_from_drains}
use Rattle.std.proofs.lemmas.List.Elements.{All-from_recursion}
use Rattle.std.proofs.lemmas.Map.Entries.{place_from_lookup, btree_map_get_place}
use denote.Param.Members.{Mut}
use Rattle.kdc_sockets.specs.declared.connection.Connection.{Connection}
use Rattle.kdc_sockets.specs.Table.{AreAll, IsLongestIdle, held_at, idle_since}
use Rattle.kdc_sockets.proofs.Places.{place_in_filter, place_from_filter, slice_get-map}

-- by the moment, and then by the number
abbrev pub key_cmp : Instant × ℕ → Instant × ℕ → Ordering
key_cmp a b =
    ordering_then (ordering_then (nat_cmp a.0.since_start.secs b.0.since_start.secs) (nat_cmp a.0.since_start.nanos b.0.since_start.nanos))
    (nat_cmp a.1 b.1)

not_less : (x y : ℕ) → is_lt (nat_cmp x y) ≡ false → y ≤ x
not_less x y above = by_ranked _ _ _ (nat_cmp x y) (ranked x y (nat_cmp x y) refl) (λ e _. absurd (cc (sym (ap is_lt e) ∙ above))) (λ _ e. omega arith) (λ _ h. omega arith)

then_second : (o p : Ordering) → is_lt (ordering_then o p) ≡ false → is_lt o ≡ false
then_second Less p h = h
then_second Equal p h = refl
then_second Greater p h = refl

-- A key that is not below another is of no earlier moment, and at the same moment of no lower number.
pub no_earlier : (a b : Instant × ℕ) → is_lt (key_cmp a b) ≡ false → (instant_nanos b.0 ≤ instant_nanos a.0) × (a.0 ≡ b.0 → b.1 ≤ a.1)
no_earlier a b above =
    let numbers = nat_cmp a.1 b.1 in
    let parts = nat_cmp a.0.since_start.nanos b.0.since_start.nanos in
    let moments : Ordering → Ordering = λ seconds. ordering_then (ordering_then seconds parts) numbers in (
      by_ranked _ _ _ (nat_cmp a.0.since_start.secs b.0.since_start.secs) (ranked a.0.since_start.secs b.0.since_start.secs _ refl)
          (λ e _. absurd (cc (subst (λ o. is_lt (moments o) ≡ false) e above)))
          (λ e same.
          let later = not_less a.0.since_start.nanos b.0.since_start.nanos (then_second parts numbers (subst (λ o. is_lt (moments o) ≡ false) e above)) in
          omega arith)
          (λ _ h. omega arith),
      λ same.
          let one : is_lt (key_cmp a (a.0, b.1)) ≡ false = subst (λ t. is_lt (key_cmp a (t, b.1)) ≡ false) (sym same) above in
          let seconds = tied_itself nat_cmp_total a.0.since_start.secs in
          let nanos = tied_itself nat_cmp_total a.0.since_start.nanos in
          let two : is_lt (ordering_then (nat_cmp a.0.since_start.nanos a.0.since_start.nanos) numbers) ≡ false =
          subst (λ o. is_lt (ordering_then (ordering_then o (nat_cmp a.0.since_start.nanos a.0.since_start.nanos)) numbers) ≡ false) seconds one in
          not_less a.1 b.1 (subst (λ o. is_lt (ordering_then o numbers) ≡ false) nanos two),
    )

abbrev pub Item : Type 0
Item = Bor ℕ × Bor Connection

-- whether an entry is among the closing ones, or among the open ones
abbrev pub is_among : Bool → ℕ × Connection → Bool
is_among closing entry = beq entry.1.is_closing closing

abbrev pub key_of : Item → Instant × ℕ
key_of item = (item.1.now.idle_since, item.0.now)

-- The items of a whole run are the entries that pass.
pub items_of_run : {S : Type 0} (steps : S → Option Item → S → Type 0) (s : S) (passing : List (ℕ × Connection)) → YieldsList steps deref_pair s passing → (p : Run steps) → p.from ≡ s → p.whole ≡ true → (map deref_pair p.items ≡ passing) × ((k : ℕ) → p.at k ≡ slice_get p.items k)
unfolding YieldsRun
items_of_run steps s passing road p from whole =
    (items_from_drains p.items (subst (λ t. DrainsIf steps (Unit {0}) t p.items) from (p.gave.0.0, p.gave.0.1, λ _. p.gave.0.2 whole)) road, p.gave.1)

some_is : {X : Type 0} (o : Option X) (y : X) → IsSomeAnd o (λ x. x ≡ y) → o ≡ Some y
some_is None y h = absurd h
some_is (Some x) y h = ap Some h

-- What an option holds after a map came from somewhere.
came_from : {X Y : Type 0} (h : X → Y) (o : Option X) (y : Y) → option_map h o ≡ Some y → (x : X) × (o ≡ Some x) × (h x ≡ y)
came_from h None y e = absurd (cc)
came_from h (Some x) y e = (x, refl, cc)

pub same_bool : (a b : Bool) → beq a b ≡ true → a ≡ b
same_bool true true h = refl
same_bool false false h = refl
same_bool true false h = absurd (cc)
same_bool false true h = absurd (cc)

pub beq_itself : (a b : Bool) → a ≡ b → beq a b ≡ true
beq_itself true b h = subst (λ x. beq true x ≡ true) h refl
beq_itself false b h = subst (λ x. beq false x ≡ true) h refl

same_number : (x y : ℕ) → is_eq (nat_cmp x y) ≡ true → x ≡ y
same_number x y h = by_ranked _ _ _ (nat_cmp x y) (ranked x y (nat_cmp x y) refl) (λ e _. absurd (cc (sym (ap is_eq e) ∙ h))) (λ _ e. e) (λ e _. absurd (cc (sym (ap is_eq e) ∙ h)))

-- A rival's key is not below the least one.
no_rival : (least its : Instant × ℕ) (y x : Item) (k other : ℕ) (rival : Connection) → least ≡ key_of y → its ≡ key_of x → deref_pair x ≡ (k, rival) → other ≡ k → is_lt (key_cmp its least) ≡ false → (idle_since y.1.now ≤ idle_since rival) × (rival.idle_since ≡ y.1.now.idle_since → y.0.now ≤ other)
no_rival least its y x k other rival mine keyed shown number above =
    let theirs : its ≡ (rival.idle_since, other) = keyed ∙ ap (λ (p : ℕ × Connection). (p.1.idle_since, p.0)) shown ∙ ap (λ n. (rival.idle_since, n)) (sym number) in
    let one = subst (λ a. is_lt (key_cmp a least) ≡ false) theirs above in
    no_earlier (rival.idle_since, other) (key_of y) (subst (λ b. is_lt (key_cmp (rival.idle_since, other) b) ≡ false) mine one)

-- Which entry has the least key of all that pass.
pub longest_of : {S F : Type 0} (steps : S → Option Item → S → Type 0) (g : Mut F (Bor Item × Unit {0}) (Instant × ℕ)) (f : F) (s : S) (closing : Bool) (m : BTreeMap ℕ Connection) → IsOrdered nat_cmp m → YieldsList steps deref_pair s (filter (is_among closing) m.entries) → CallKeepsClosure g f → ((x : Item) (k : Instant × ℕ) (h : F) → CalledAt g f x k h → k ≡ key_of x) → (y : Item) → WholeRun steps s (λ p. AnyItem p (λ x. x ≡ y) × NoKeyBeyond p g f is_lt key_cmp y) → IsLongestIdle closing m.entries y.0.now
longest_of steps g f s closing m ordered road keeps gives y run =
    let p = run.0 in
    let list = items_of_run steps s (filter (is_among closing) m.entries) road p run.1 run.2 in
    let place : ℕ = run.3.0.0 in
    let at : slice_get p.items place ≡ Some y = sym (list.1 place) ∙ some_is (p.at place) y run.3.0.2 in
    let passes : slice_get (filter (is_among closing) m.entries) place ≡ Some (deref_pair y) =
    ap (λ l. slice_get l place) (sym list.0) ∙ slice_get-map deref_pair p.items place ∙ ap (option_map deref_pair) at in
    let own = place_from_filter (is_among closing) m.entries place (deref_pair y) passes in
    let beyond = run.3.1 keeps in
    let rivals : (other : ℕ) (rival : Connection) → held_at m.entries other ≡ Some rival → rival.is_closing ≡ closing → (idle_since y.1.now ≤ idle_since rival) × (rival.idle_since ≡ y.1.now.idle_since → y.0.now ≤ other) =
    λ other rival held among.
    let stands = place_from_lookup (is_at (nat_cmp other)) m.entries rival held in
    let there = place_in_filter (is_among closing) m.entries stands.0 (stands.1, rival) stands.2 (beq_itself rival.is_closing closing among) in
    let from = came_from deref_pair (slice_get p.items there.0) (stands.1, rival) (sym (slice_get-map deref_pair p.items there.0) ∙ ap (λ l. slice_get l there.0) list.0 ∙ there.1) in
    let called = subst (λ o. IfSome o (λ x. (j : Instant × ℕ) × CalledAt g f x j f × (is_lt (key_cmp j beyond.0) ≡ false))) (list.1 there.0 ∙ from.1) (beyond.2 there.0) in
    no_rival beyond.0 called.0 y from.0 stands.1 other rival (gives y beyond.0 f beyond.1) (gives from.0 called.0 f called.1) from.2 (same_number other stands.1 stands.3) called.2 in
    record {
      connection = y.1.now;
      held = btree_map_get_place nat_cmp_total m own.0.0 y.0.now y.1.now ordered own.0.1;
      closing = same_bool y.1.now.is_closing closing own.1;
      longest = λ other rival held among. (rivals other rival held among).0;
      first = λ other rival held among. (rivals other rival held among).1;
    }

other_bool : (a b : Bool) → beq a b ≡ false → a ≡ not b
other_bool true true h = absurd (cc)
other_bool false false h = absurd (cc)
other_bool true false h = refl
other_bool false true h = refl

none_pass : (closing : Bool) (es : List (ℕ × Connection)) → filter (is_among closing) es ≡ [] → AllByRecursion (λ connection. connection.is_closing ≡ not closing) (values_of es)
none_pass closing [] h = tt
none_pass closing (e ∷ es) h = by_test (beq e.1.is_closing closing) refl h (none_pass closing es)
  where
    by_test : (b : Bool) → beq e.1.is_closing closing ≡ b → cond b (e ∷ filter (is_among closing) es) (filter (is_among closing) es) ≡ [] → (filter (is_among closing) es ≡ [] → AllByRecursion (λ connection. connection.is_closing ≡ not closing) (values_of es)) → AllByRecursion (λ connection. connection.is_closing ≡ not closing) (values_of (e ∷ es))
    by_test true is h later = absurd (cc)
    by_test false is h later = (other_bool e.1.is_closing closing is, later h)

empty : {X : Type 0} (xs : List X) → length xs ≡ 0 → xs ≡ []
empty [] h = refl
empty (x ∷ xs) h = absurd (omega arith)

-- If no entry passes, all are of the other kind.
pub none_of : {S : Type 0} (steps : S → Option Item → S → Type 0) (s : S) (closing : Bool) (es : List (ℕ × Connection)) → YieldsList steps deref_pair s (filter (is_among closing) es) → WholeRun steps s (λ p. p.len ≡ 0) → AreAll (not closing) es
none_of steps s closing es road run =
    let list = items_of_run steps s (filter (is_among closing) es) road run.0 run.1 run.2 in
    let items = empty run.0.items (sym run.0.long ∙ run.3) in
    let none : filter (is_among closing) es ≡ [] = sym list.0 ∙ ap (map deref_pair) items in
    All-from_recursion _ _ (none_pass closing es none)
