-- Runs with tidyings, and the same runs without them.
use Rattle.std.specs.Prelude.{◌≡◌, ℤ, ◌≤ℤ◌, ⊤, List, [], ◌∷◌}
use Rattle.kdc_state.specs.declared.state.State.{State}
use Rattle.kdc_core.specs.Struck.{is_request, replies_to}
use Rattle.kdc_core.specs.declared.run.Event.{Event}
use Rattle.kdc_core.specs.declared.run.Event.TheVariants.{Request, Change, Replace, Tidy, Restart, Reopen, Resume}

-- no request is before this second
abbrev pub RequestsFrom : ℤ → List Event → Type 0
RequestsFrom second [] = ⊤
RequestsFrom second (Request at random room request ∷ events) = (second ≤ℤ at.sec) × RequestsFrom second events
RequestsFrom second (Change change ∷ events) = RequestsFrom second events
RequestsFrom second (Replace database ∷ events) = RequestsFrom second events
RequestsFrom second (Tidy at ∷ events) = RequestsFrom second events
RequestsFrom second (Restart at ∷ events) = RequestsFrom second events
RequestsFrom second (Reopen database limits at ∷ events) = RequestsFrom second events
RequestsFrom second (Resume database limits resumption ∷ events) = RequestsFrom second events

-- no request is before the second of an earlier tidying
abbrev pub RequestsFollow : List Event → Type 0
RequestsFollow [] = ⊤
RequestsFollow (Request at random room request ∷ events) = RequestsFollow events
RequestsFollow (Change change ∷ events) = RequestsFollow events
RequestsFollow (Replace database ∷ events) = RequestsFollow events
RequestsFollow (Tidy at ∷ events) = RequestsFrom at.sec events × RequestsFollow events
RequestsFollow (Restart at ∷ events) = RequestsFollow events
RequestsFollow (Reopen database limits at ∷ events) = RequestsFollow events
RequestsFollow (Resume database limits resumption ∷ events) = RequestsFollow events

-- all events but the tidyings
abbrev pub untidied : List Event → List Event
untidied [] = []
untidied (Request at random room request ∷ events) = Request at random room request ∷ untidied events
untidied (Change change ∷ events) = Change change ∷ untidied events
untidied (Replace database ∷ events) = Replace database ∷ untidied events
untidied (Tidy at ∷ events) = untidied events
untidied (Restart at ∷ events) = Restart at ∷ untidied events
untidied (Reopen database limits at ∷ events) = Reopen database limits at ∷ untidied events
untidied (Resume database limits resumption ∷ events) = Resume database limits resumption ∷ untidied events

-- If no request is before an earlier tidying, the requests get the replies that they get without any tidying.
abbrev pub TidiesUnseen : Type 0
TidiesUnseen = (state : State) (events : List Event) → RequestsFollow events
    → replies_to is_request state events ≡ replies_to is_request state (untidied events)
