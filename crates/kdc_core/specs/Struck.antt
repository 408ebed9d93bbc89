-- Struck runs: the events of a run that concern one client, with the requests and changes of others struck out.
use Rattle.std.proofs.Common.{◌≡◌, ℕ, Bool, true, false, ◌||◌, if◌then◌else◌, IsTrue, IfSome, List, [], ◌∷◌, Option}
use Rattle.std.proofs.Common.{Some, None, refl, ap}
use Rattle.std.specs.Prelude.{⊤}
use Rattle.std.specs.FinMap as map
use Rattle.std.specs.Ordering.{eq_by_cmp}
use Rattle.krb_fields.specs.Name.{Components, name_cmp}
use Rattle.krb_fields.specs.Granting.{tgs_principal}
use Rattle.kdc_state.specs.State.{cache_of}
use Rattle.kdc_state.specs.declared.state.State.{State}
use Rattle.kdc_core.specs.Run.{after_event, event_reply, replies, run}
use Rattle.kdc_core.specs.View.{named}
use Rattle.kdc_core.specs.declared.run.Event.{Event}
use Rattle.kdc_core.specs.declared.run.Event.TheVariants.{Request, Change, Replace, Tidy, Restart, Reopen, Resume}

-- a set of names, as a test
abbrev pub Names : Type 0
Names = Components → Bool

-- whether this client is named
abbrev pub is_client : Components → Option Components → Bool
is_client c (Some name) = eq_by_cmp name_cmp c name
is_client c None = false

abbrev pub is_request : State → Event → Bool
is_request state (Request at random room request) = true
is_request state (Change change) = false
is_request state (Replace database) = false
is_request state (Tidy at) = false
is_request state (Restart at) = false
is_request state (Reopen database limits at) = false
is_request state (Resume database limits resumption) = false

-- a request whose named client is c
abbrev pub is_clients_request : Components → State → Event → Bool
is_clients_request c state (Request at random room request) = is_client c (named state request).client
is_clients_request c state (Change change) = false
is_clients_request c state (Replace database) = false
is_clients_request c state (Tidy at) = false
is_clients_request c state (Restart at) = false
is_clients_request c state (Reopen database limits at) = false
is_clients_request c state (Resume database limits resumption) = false

-- whether an event stays for the client c, when the rows of S matter: a request of c, a change of the row of c or of a
-- name in S, and each replacement, tidying and restart
abbrev pub is_left : Components → Names → State → Event → Bool
is_left c S state (Request at random room request) = is_client c (named state request).client
is_left c S state (Change change) = eq_by_cmp name_cmp c change.name.components || S change.name.components
is_left c S state (Replace database) = true
is_left c S state (Tidy at) = true
is_left c S state (Restart at) = true
is_left c S state (Reopen database limits at) = true
is_left c S state (Resume database limits resumption) = true

-- the events that stay, each judged at its place in the run
abbrev pub strike : Components → Names → State → List Event → List Event
strike c S state [] = []
strike c S state (event ∷ events) =
    if is_left c S state event then event ∷ strike c S (after_event state event) events
    else strike c S (after_event state event) events

-- the replies of a run to those events that pass a test at their places, in order
abbrev pub replies_to : (State → Event → Bool) → State → List Event → List (Option (List ℕ))
replies_to test state [] = []
replies_to test state (event ∷ events) =
    if test state event then event_reply state event ∷ replies_to test (after_event state event) events
    else replies_to test (after_event state event) events

-- the service that an event names, if it is a request of c, is in S; so is the ticket-granting service of a realm that
-- the event starts with
abbrev pub NamesWithin : Components → Names → State → Event → Type 0
NamesWithin c S state (Request at random room request) =
    IsTrue (is_client c (named state request).client)
    → IfSome (named state request).service (λ service. IsTrue (S service))
NamesWithin c S state (Change change) = ⊤
NamesWithin c S state (Replace database) = ⊤
NamesWithin c S state (Tidy at) = ⊤
NamesWithin c S state (Restart at) = ⊤
NamesWithin c S state (Reopen database limits at) = IsTrue (S (tgs_principal database.realm))
NamesWithin c S state (Resume database limits resumption) = IsTrue (S (tgs_principal database.realm))

-- each service that a request of c names at its place in the run is in S, and so is the ticket-granting service of each
-- realm that an event starts with
abbrev pub ServicesWithin : Components → Names → State → List Event → Type 0
ServicesWithin c S state [] = ⊤
ServicesWithin c S state (event ∷ events) =
    NamesWithin c S state event × ServicesWithin c S (after_event state event) events

-- a second state has the same realm and limits, and agrees on c's row and cache, and on the rows of S
pub record AgreesFor (c : Components) (S : Names) (state other : State) : Type 0 where
  pub realm : other.database.realm ≡ state.database.realm
  pub limits : other.limits ≡ state.limits
  pub row : map.get other.database.rows c ≡ map.get state.database.rows c
  pub cache : cache_of other c ≡ cache_of state c
  pub rows : (name : Components) → IsTrue (S name) → map.get other.database.rows name ≡ map.get state.database.rows name

-- how a run and the struck run of a second state are related
pub record IsIsolated (c : Components) (S : Names) (state other : State) (events struck : List Event) : Type 0 where
  -- the replies to c's requests are, in order, those of the struck run to its requests
  pub own : replies_to is_request other struck ≡ replies_to (is_clients_request c) state events
  -- the struck run gives each event that stays the reply that the run gives it
  pub left : replies other struck ≡ replies_to (is_left c S) state events
  -- the final states agree for c
  pub afterwards : AgreesFor c S (run state events) (run other struck)

-- What others request and change doesn't change what a client gets. This holds for every client c, for every set S of
-- names that holds the ticket-granting service and each service that c's requests name, and for every second state that
-- agrees for c. The moments need not be in order.
abbrev pub Isolation : State → List Event → Type 0
Isolation state events =
    (c : Components) (S : Names) (other : State) → IsTrue (S (tgs_principal state.database.realm))
    → ServicesWithin c S state events → AgreesFor c S state other
    → IsIsolated c S state other events (strike c S state events)

-- the replies of a run are its replies to all events
pub replies_to_all : (state : State) (events : List Event)
    → replies_to (λ state event. true) state events ≡ replies state events
replies_to_all state [] = refl
replies_to_all state (event ∷ events) =
    ap (λ l. event_reply state event ∷ l) (replies_to_all (after_event state event) events)
