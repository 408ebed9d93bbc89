-- Which requests are a connection's own.
use Rattle.std.specs.Prelude.{◌≡◌, ◌≢◌, ℕ, ⊤, Bool, false, ◌==◌, IsTrue, List, [], ◌∷◌, ◌++◌, Some, if◌then◌else◌}
use Rattle.std.specs.FinMap as map
use Rattle.std.specs.List.{AllByRecursion, flat_map}
use Rattle.framing.specs.Messages.{messages}
use Rattle.framing.specs.Splitting.{started}
use Rattle.kdc_core.specs.declared.run.Event.{Event as KdcEvent}
use Rattle.kdc_core.specs.declared.run.Event.TheVariants.{Request, Change, Replace, Tidy, Restart, Reopen, Resume}
use Rattle.kdc_hub.specs.declared.event.Event.{Event}
use Rattle.kdc_hub.specs.declared.event.Event.TheVariants.{Datagram, Opened, Bytes, Closed}
use Rattle.kdc_hub.specs.Hub.{HubState, greatest_request}
use Rattle.kdc_hub.specs.Logged.{Entry, logged, step_of}
use Rattle.kdc_hub.specs.History.{IsPrefix, requests_of}

abbrev pub is_on : ℕ → Event → Bool
is_on conn (Datagram peer request) = false
is_on conn (Opened c) = false
is_on conn (Bytes c piece) = c == conn
is_on conn (Closed c) = false

-- the bytes that an event brings on a connection
abbrev pub brought_on : ℕ → Event → List ℕ
brought_on conn (Datagram peer request) = []
brought_on conn (Opened c) = []
brought_on conn (Bytes c piece) = if c == conn then piece else []
brought_on conn (Closed c) = []

-- all bytes that arrive on it
abbrev pub bytes_on : ℕ → List Entry → List ℕ
bytes_on conn entries = flat_map (λ entry. brought_on conn entry.event) entries

abbrev pub asked_by : KdcEvent → List (List ℕ)
asked_by (Request at random room request) = request ∷ []
asked_by (Change change) = []
asked_by (Replace database) = []
asked_by (Tidy at) = []
asked_by (Restart at) = []
asked_by (Reopen database limits at) = []
asked_by (Resume database limits resumption) = []

-- the requests in the run that entries complete on it, in order
abbrev pub requests_on : ℕ → HubState → List Entry → List (List ℕ)
requests_on conn hub [] = []
requests_on conn hub (entry ∷ entries) =
    (if is_on conn entry.event then flat_map asked_by (requests_of hub entry) else [])
    ++ requests_on conn (step_of hub entry).hub entries

-- opens no connection of this number, since a number is never used again
abbrev pub IsNoOpening : ℕ → Event → Type 0
IsNoOpening conn (Datagram peer request) = ⊤
IsNoOpening conn (Opened c) = c ≢ conn
IsNoOpening conn (Bytes c piece) = ⊤
IsNoOpening conn (Closed c) = ⊤

-- the requests on a connection are the first messages of the bytes that arrive on it; and all of them, if it is still
-- open
pub record AreItsMessages (conn : ℕ) (hub : HubState) (entries : List Entry) : Type 0 where
  pub begins : IsPrefix (requests_on conn hub entries) (messages greatest_request (bytes_on conn entries)).messages
  pub all : IsTrue (map.contains_key (logged hub entries).hub.connections conn)
      → requests_on conn hub entries ≡ (messages greatest_request (bytes_on conn entries)).messages

-- From its opening on, a connection's requests are the messages of its own bytes, whatever arrives elsewhere.
abbrev pub AsksItsOwn : Type 0
AsksItsOwn = (hub : HubState) (entries : List Entry) (conn : ℕ)
    → map.get hub.connections conn ≡ Some (started greatest_request)
    → AllByRecursion (λ entry. IsNoOpening conn entry.event) entries
    → AreItsMessages conn hub entries
