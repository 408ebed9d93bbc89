-- Extending a run by one event.
use Rattle.std.proofs.Common.{◌≡◌, ◌<◌, ◌≤◌, ◌+◌, ℕ, suc, List, [], ◌∷◌, ◌++◌, length, map, take, Option, arith, refl, ap, sym, ◌∙◌}
use Rattle.std.specs.Prelude.{slice_index_or}
use Rattle.std.proofs.Math.Seq.{take-suc}
use Rattle.std.proofs.lemmas.List.{length-map, length-take-le}
use Rattle.kdc_state.specs.declared.state.State.{State}
use Rattle.kdc_core.specs.Run.{after_event, event_reply, replies, run}
use Rattle.kdc_core.specs.declared.run.Event.{Event}

-- a run of some events and then of others
pub run_append : (state : State) (events others : List Event) → run state (events ++ others) ≡ run (run state events) others
run_append state [] others = refl
run_append state (e ∷ es) others = run_append (after_event state e) es others

pub replies_append : (state : State) (events others : List Event) → replies state (events ++ others) ≡ replies state events ++ replies (run state events) others
replies_append state [] others = refl
replies_append state (e ∷ es) others = ap (λ l. event_reply state e ∷ l) (replies_append (after_event state e) es others)

run_on : (state : State) (events : List Event) (event : Event) → run state (events ++ event ∷ []) ≡ after_event (run state events) event
run_on state [] event = refl
run_on state (e ∷ es) event = run_on (after_event state e) es event

replies_on : (state : State) (events : List Event) (event : Event) → replies state (events ++ event ∷ []) ≡ replies state events ++ event_reply (run state events) event ∷ []
replies_on state [] event = refl
replies_on state (e ∷ es) event = ap (λ l. event_reply state e ∷ l) (replies_on (after_event state e) es event)

length_replies : (state : State) (events : List Event) → length (replies state events) ≡ length events
length_replies state [] = refl
length_replies state (e ∷ es) = ap suc (length_replies (after_event state e) es)

-- the first n events got these replies, and led to this state
pub record AreDone (start : State) (events : List Event) (n : ℕ) (given : List (Option (List ℕ))) (now : State) : Type 0 where
  pub replies_are : given ≡ replies start (take n events)
  pub state_is : now ≡ run start (take n events)

module _ {start : State} {events : List Event} {n : ℕ} {given : List (Option (List ℕ))} {now : State} (so_far : AreDone start events n given now) where
  pub one_more : (event : Event) → n < length events → event ≡ slice_index_or events n event → {next_given : List (Option (List ℕ))} {next : State}
      → next_given ≡ given ++ event_reply now event ∷ [] → next ≡ after_event now event → AreDone start events (n + 1) next_given next
  one_more event lt is granted_is next_is =
      let further : take (n + 1) events ≡ take n events ++ event ∷ [] =
      (let e : n + 1 ≡ suc n = omega arith in ap (λ k. take k events) e) ∙ take-suc events n event lt ∙ ap (λ y. take n events ++ y ∷ []) (sym is) in
      record {
        replies_are = granted_is ∙ (λ i. so_far.replies_are i ++ event_reply (so_far.state_is i) event ∷ []) ∙ sym (replies_on start (take n events) event) ∙ ap (replies start) (sym further);
        state_is = next_is ∙ ap (λ s. after_event s event) so_far.state_is ∙ sym (run_on start (take n events) event) ∙ ap (run start) (sym further);
      }

-- if the next event is not handled, there are as many replies as handled events
pub stopped : {X : Type 0} (f : X → Option (List ℕ)) {start : State} {events : List Event} {n : ℕ} {old new : List X} {now next : State} → AreDone start events n (map f old) now
    → n < length events → (next ≡ now) × (new ≡ old) → (len : ℕ) → len ≡ length new → (len < length events) × AreDone start events len (map f new) next
stopped f {start} {events} {n} {old} {new} {now} {next} so_far lt same len is =
    let few : n ≤ length events = omega (arith, lt) in
    let many : len ≡ n = is ∙ ap length same.1 ∙ sym (length-map old f) ∙ ap length so_far.replies_are ∙ length_replies start (take n events) ∙ length-take-le n events few in (
      omega (arith, many, lt),
      record {
        replies_are = ap (map f) same.1 ∙ so_far.replies_are ∙ ap (λ k. replies start (take k events)) (sym many);
        state_is = same.0 ∙ so_far.state_is ∙ ap (λ k. run start (take k events)) (sym many);
      },
    )
