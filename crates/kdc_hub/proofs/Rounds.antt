-- One act after another, and one round after another.
use Rattle.std.proofs.Common.{rules, true, false, ◌≡◌, ◌⊎◌, ◌<◌, ◌≤◌, ◌+◌, ◌-◌, ◌^◌, inl, inr, ℕ, suc, arith, List, [], ◌∷◌, ◌++◌, length, take, slice_index_or, count_by, Option, Some, None, refl, sym, ap, subst, ◌∙◌, append_assoc}
use Rattle.std.specs.Prelude.{Bool, min, nat_le}
use Rattle.std.specs.Option.{option_or}
use Rattle.std.proofs.Math.Nat.{min-eq_left, min-eq_right, min-le_left}
use Rattle.std.proofs.Math.Seq.{take-suc}
use Rattle.std.proofs.lemmas.List.{append-nil}
use Rattle.std.proofs.lemmas.List.Sums.{sum_by-append}
use Rattle.krb_fields.specs.declared.moment.Moment.{Moment}
use Rattle.kdc_hub.specs.declared.event.Action.{Action}
use Rattle.kdc_hub.specs.declared.wires.WireCall.{WireCall}
use Rattle.kdc_hub.specs.declared.wires.WireCall.TheVariants.{Acted, Failed}
use Rattle.kdc_hub.specs.Hub.{HubState}
use Rattle.kdc_hub.specs.Logged.{logged}
use Rattle.kdc_hub.specs.Wire.{IsCounted, Records, is_fault}
use Rattle.kdc_hub.specs.Rounds.{Tries, action_connection, ending, lost_by, lost_in}
use Rattle.kdc_hub.specs.Acts.{AreActs}

pub records_nothing : {X : Type 0} (a : Option (List X)) → Records a [] a
records_nothing None = tt
records_nothing (Some x) = sym (append-nil x)

pub records_on : {X : Type 0} (a : Option (List X)) (d : List X) (b : Option (List X)) (e : List X) (c : Option (List X)) → Records a d b → Records b e c → Records a (d ++ e) c
records_on a d b e None s t = tt
records_on a d None e (Some z) s t = absurd t
records_on None d (Some y) e (Some z) s t = absurd s
records_on (Some x) d (Some y) e (Some z) s t = t ∙ ap (λ l. l ++ e) s ∙ append_assoc x d e

pub counted_on : (a b c m n : ℕ) → IsCounted a m b → IsCounted b n c → IsCounted a (m + n) c
counted_on a b c m n s t = record {
  later = omega (arith, s.later, t.later);
  rose = λ h. let second = t.rose h in let first = s.rose (omega (arith, t.later, h)) in omega (arith, first, second);
}

pub counted_nothing : (a : ℕ) → IsCounted a 0 a
counted_nothing a = record { later = omega arith; rose = λ h. omega arith }

pub or_none : {X : Type 0} (o : Option X) → option_or o None ≡ o
or_none (Some x) = refl
or_none None = refl

-- a sum that stops at m, when one number stopped there
pub saturated : (a b m : ℕ) → min (min a m + b) m ≡ min (a + b) m
saturated a b m = by_order (nat_le a m) refl
  where
    by_order : (t : Bool) → nat_le a m ≡ t → min (min a m + b) m ≡ min (a + b) m
    by_order true le = let lt : a ≤ m = search rules in ap (λ k. min (k + b) m) (min-eq_left lt)
    by_order false gt =
        let lt : m ≤ a = search rules in
        let one : m ≤ m + b = omega arith in
        let other : m ≤ a + b = omega (arith, lt) in
        ap (λ k. min (k + b) m) (min-eq_right lt) ∙ min-eq_right one ∙ sym (min-eq_right other)

-- a sum that stops at m, when both numbers stopped there
pub saturated_both : (a b m : ℕ) → min (min a m + min b m) m ≡ min (a + b) m
saturated_both a b m =
    let swap : a + min b m ≡ min b m + a = omega arith in
    let back : b + a ≡ a + b = omega arith in
    saturated a (min b m) m ∙ ap (λ k. min k m) swap ∙ saturated b a m ∙ ap (λ k. min k m) back

-- the count may stop short of what was recorded
pub counted_less : (a k m b : ℕ) → k ≡ min m (2 ^ 64 - 1) → IsCounted a m b → IsCounted a k b
counted_less a k m b e s = record {
  later = s.later;
  rose = λ h. let all = s.rose h in let less = min-le_left m (2 ^ 64 - 1) in omega (arith, all, less, e);
}

pub tries_on : (xs ys : List Action) (d e : List WireCall) → Tries xs d → Tries ys e → Tries (xs ++ ys) (d ++ e)
unfolding Tries
tries_on [] ys d e s t = subst (λ l. Tries ys (l ++ e)) (sym s) t
tries_on (x ∷ xs) ys d e s t = (
  s.0 ++ e,
  elim s.1 [
    | inl w ↦ inl (ap (λ l. l ++ e) w)
    | inr w ↦ inr (ap (λ l. l ++ e) w)
  ],
  tries_on xs ys s.0 e s.2 t,
)

-- the first lost connection is that of the first part, if one is lost there
pub lost_on : (d e : List WireCall) → lost_in (d ++ e) ≡ option_or (lost_in d) (lost_in e)
lost_on [] e = refl
lost_on (x ∷ d) e = ap (option_or (lost_by x)) (lost_on d e) ∙ one_by_one (lost_by x)
  where
    one_by_one : (o : Option ℕ) → option_or o (option_or (lost_in d) (lost_in e)) ≡ option_or (option_or o (lost_in d)) (lost_in e)
    one_by_one (Some conn) = refl
    one_by_one None = refl

-- one place further along a list
pub one_further : (xs : List Action) (i : ℕ) (x : Action) → i < length xs → x ≡ slice_index_or xs i x → take (i + 1) xs ≡ take i xs ++ x ∷ []
one_further xs i x lt is = (let e : i + 1 ≡ suc i = omega arith in ap (λ k. take k xs) e) ∙ take-suc xs i x lt ∙ ap (λ y. take i xs ++ y ∷ []) (sym is)

-- the acts so far, and the connection that they lost
pub record AreTried (before : Option (List WireCall)) (start : HubState) (actions : List Action) (failed : ℕ) (lost : Option ℕ) (after : Option (List WireCall)) (new : HubState) : Type 0 where
  pub did : List WireCall
  pub tries : Tries actions did
  pub recorded : Records before did after
  pub hub : new ≡ start
  pub faults : failed ≡ count_by is_fault did
  pub loses : lost ≡ lost_in did

pub none_tried : (before : Option (List WireCall)) (start : HubState) → AreTried before start [] 0 None before start
unfolding Tries
none_tried before start = record { did = []; tries = refl; recorded = records_nothing before; hub = refl; faults = refl; loses = refl }

module _ (before : Option (List WireCall)) (start : HubState) (actions : List Action) (i n : ℕ) (lost : Option ℕ) (middle : Option (List WireCall)) (hub : HubState) (so_far : AreTried before start (take i actions) n lost middle hub)
    (x : Action) (lt : i < length actions) (is : x ≡ slice_index_or actions i x) (after : Option (List WireCall)) (new : HubState) (m : ℕ) (more : Option ℕ) where
  one_tried : (did : WireCall) → (did ≡ Acted x) ⊎ (did ≡ Failed x) → Records middle (did ∷ []) after → new ≡ hub → m ≡ n + count_by is_fault (did ∷ []) → more ≡ option_or lost (lost_by did)
      → AreTried before start (take (i + 1) actions) m more after new
  unfolding Tries
  one_tried did tried recorded same failed lost_then = record {
    did = so_far.did ++ did ∷ [];
    tries = subst (λ l. Tries l (so_far.did ++ did ∷ [])) (sym (one_further actions i x lt is))
        (tries_on (take i actions) (x ∷ []) so_far.did (did ∷ []) so_far.tries ([], elim tried [ inl e ↦ inl (ap (λ d. d ∷ []) e) | inr e ↦ inr (ap (λ d. d ∷ []) e) ], refl));
    recorded = records_on before so_far.did middle (did ∷ []) after so_far.recorded recorded;
    hub = same ∙ so_far.hub;
    faults = failed ∙ ap (λ k. k + count_by is_fault (did ∷ [])) so_far.faults ∙ sym (sum_by-append _ so_far.did (did ∷ []));
    loses = lost_then ∙ ap (λ o. option_or o (lost_by did)) so_far.loses ∙ ap (option_or (lost_in so_far.did)) (sym (or_none (lost_by did))) ∙ sym (lost_on so_far.did (did ∷ []));
  }

  pub one_done : Records middle (Acted x ∷ []) after → new ≡ hub → m ≡ n → more ≡ lost → AreTried before start (take (i + 1) actions) m more after new
  one_done recorded same failed lost_then = one_tried (Acted x) (inl refl) recorded same (failed ∙ omega arith) (lost_then ∙ sym (or_none lost))

  pub one_failed : Records middle (Failed x ∷ []) after → new ≡ hub → m ≡ n + 1 → more ≡ option_or lost (action_connection x) → AreTried before start (take (i + 1) actions) m more after new
  one_failed recorded same failed lost_then = one_tried (Failed x) (inr refl) recorded same failed lost_then

pub all_tried : (before : Option (List WireCall)) (start : HubState) (at : Moment) (xs : List Action) (n : ℕ) (lost : Option ℕ) (after : Option (List WireCall)) (hub new : HubState)
    → AreTried before start xs n lost after hub → new ≡ (logged hub (ending at lost)).hub → AreActs before start at xs n after new
all_tried before start at xs n lost after hub new h ended = record {
  did = h.did;
  tries = h.tries;
  recorded = h.recorded;
  hub = ended ∙ (λ i. (logged (h.hub i) (ending at (h.loses i))).hub);
  faults = h.faults;
}
