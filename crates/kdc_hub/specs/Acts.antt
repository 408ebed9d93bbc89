-- The result of each part of a round.
use Rattle.std.specs.Prelude.{◌≡◌, ℕ, List, ◌++◌, count_by, Option, Some}
use Rattle.krb_fields.specs.declared.moment.Moment.{Moment}
use Rattle.kdc_hub.specs.declared.event.Action.{Action}
use Rattle.kdc_hub.specs.declared.event.Event.{Event}
use Rattle.kdc_hub.specs.declared.server.Served.{Served}
use Rattle.kdc_hub.specs.declared.wires.WireCall.{WireCall}
use Rattle.kdc_hub.specs.Hub.{HubState}
use Rattle.kdc_hub.specs.Logged.{Stop, logged}
use Rattle.kdc_hub.specs.Wire.{Records, is_fault}
use Rattle.kdc_hub.specs.Rounds.{IsRound, Took, Tries, ending, entries_of, is_refused, lost_in}

-- the result of the acts for a list of actions
pub record AreActs (before : Option (List WireCall)) (start : HubState) (at : Moment) (actions : List Action)
    (failed : ℕ)
    (after : Option (List WireCall)) (new : HubState) : Type 0 where
  pub did : List WireCall
  pub tries : Tries actions did
  pub recorded : Records before did after
  pub hub : new ≡ (logged start (ending at (lost_in did))).hub
  pub faults : failed ≡ count_by is_fault did

-- the result of an event that arrived, after its poll
pub record IsTaken (before : Option (List WireCall)) (start : HubState) (at : Moment) (event : Event) (served : Served)
    (after : Option (List WireCall)) (new : HubState) : Type 0 where
  pub stop : Option Stop
  pub acts : List WireCall
  pub close : List WireCall
  pub is : IsRound start (Took (record { at = at; event = event; stop = stop }) acts close)
  pub recorded : Records before (acts ++ close) after
  pub hub : new ≡ (logged start (entries_of (Took (record { at = at; event = event; stop = stop }) acts close))).hub
  pub events : served.events ≡ 1
  pub faults : served.faults ≡ count_by is_fault (acts ++ close)
  pub refused : served.refused
      ≡ count_by is_refused (entries_of (Took (record { at = at; event = event; stop = stop }) acts close))
  pub last : served.last ≡ Some at
