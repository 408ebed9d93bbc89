-- What processes accept that resume one after the other is what one run accepts.
use Rattle.std.proofs.Common.{◌≡◌, List, [], ◌∷◌, ◌++◌, Option, Some, None, refl, sym, ap, subst, ◌∙◌}
use Rattle.krb_fields.specs.Name.{Components}
use Rattle.replay.specs.Run.{collected, with_any, EachOnce}
use Rattle.replay.specs.Stamp.{Stamp}
use Rattle.ap_accept.specs.Lives.{Life, EachSaved, ResumedOnce, accepted_through, after_events}
use Rattle.ap_accept.specs.Run.{Event, Resume, accepted_at, after_call, after_event}
use Rattle.ap_accept.specs.Saved.{resumed}
use Rattle.ap_accept.specs.State.{renewed}
use Rattle.ap_accept.specs.declared.state.State.{State}
use Rattle.ap_accept.proofs.Once.{accepted_once}

-- the events of all processes
events_of : List Life → List Event
events_of [] = []
events_of (life ∷ lives) = life.events ++ Resume life.keytab life.options ∷ events_of lives

with_more : {X : Type 0} (found : Option X) (xs ys : List X) → with_any found xs ++ ys ≡ with_any found (xs ++ ys)
with_more None xs ys = refl
with_more (Some x) xs ys = refl

module _ (service client : Components) where
  abbrev collects : State → List Event → List Stamp
  collects state events = collected (after_event after_call) (accepted_at service client) state events

  -- one list of events behind another
  in_two : (state : State) (first more : List Event) → collects state (first ++ more) ≡ collects state first ++ collects (after_events state first) more
  in_two state [] more = refl
  in_two state (event ∷ first) more =
      ap (with_any (accepted_at service client state event)) (in_two (after_event after_call state event) first more)
      ∙ sym (with_more (accepted_at service client state event) (collects (after_event after_call state event) first)
      (collects (after_events (after_event after_call state event) first) more))

  through : (state : State) (lives : List Life) → EachSaved (Some state) lives
      → accepted_through service client (Some state) lives ≡ collects state (events_of lives)
  unfolding events_of
  through state [] saved = refl
  through state (life ∷ lives) saved =
      let next : State = renewed (after_events state life.events) life.keytab life.options in
      let is : resumed life.keytab life.options life.saved ≡ Some next = saved.0 life.keytab life.options in
      let rest : accepted_through service client (Some next) lives ≡ collects next (events_of lives) =
      through next lives (subst (λ (o : Option State). EachSaved o lives) is saved.1) in
      ap (λ (o : Option State). collects state life.events ++ accepted_through service client o lives) is
      ∙ ap (λ (l : List Stamp). collects state life.events ++ l) rest
      ∙ sym (in_two state life.events (Resume life.keytab life.options ∷ events_of lives))

pub resumed_once : ResumedOnce
resumed_once state realm sname client lives saved =
    subst EachOnce (sym (through (realm ∷ sname) client state lives saved))
    (accepted_once state realm sname client (events_of lives))
