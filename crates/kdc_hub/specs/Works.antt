-- The work that events complete, however the pieces are cut.
use Rattle.std.specs.Prelude.{ℕ, List, [], ◌∷◌, ◌++◌, Option, Some, None}
use Rattle.std.specs.FinMap as map
use Rattle.framing.specs.declared.fault.FrameFault.{FrameFault}
use Rattle.framing.specs.Splitting.{Splitting, fed, handed_out}
use Rattle.krb_fields.specs.declared.moment.Moment.{Moment}
use Rattle.kdc_hub.specs.declared.event.Event.{Event}
use Rattle.kdc_hub.specs.declared.event.Event.TheVariants.{Datagram, Opened, Bytes, Closed}
use Rattle.kdc_hub.specs.declared.event.Peer.{Peer}
use Rattle.kdc_core.specs.declared.reply.Reply.{Reply}
use Rattle.kdc_hub.specs.Issuing.{Issuing, after, reply_of}
use Rattle.kdc_hub.specs.StreamStep.{stream_room}
use Rattle.kdc_hub.specs.Hub.{HubState, hub_step}
use Rattle.kdc_hub.specs.Logged.{Entry}

-- a request, a bad length, or the beginning or the end of a connection
pub data Work : Type 0 where
  Asked : Peer → List ℕ → Work
  Requested : ℕ → List ℕ → Work
  Faulted : ℕ → Work
  Begun : ℕ → Work
  Ended : ℕ → Work

pub record Timed : Type 0 where
  pub at : Moment
  pub work : Work

-- the work in a stream's messages, up to the one that ends the connection
abbrev pub fault_works : Moment → ℕ → Option FrameFault → List Timed
fault_works at conn (Some fault) = record { at = at; work = Faulted conn } ∷ []
fault_works at conn None = []

abbrev pub others_if : Option Reply → List Timed → List Timed
others_if (Some reply) others = others
others_if None others = []

unfoldable pub stream_works : Issuing → Moment → ℕ → Option FrameFault → List (List ℕ) → List Timed
stream_works i at conn fault [] = fault_works at conn fault
stream_works i at conn fault (request ∷ requests) =
    record { at = at; work = Requested conn request }
    ∷ others_if (reply_of i at stream_room request)
    (stream_works (after i at stream_room request) at conn fault requests)

abbrev pub piece_works : Issuing → Moment → ℕ → List ℕ → Option Splitting → List Timed
piece_works i at conn piece (Some s) =
    stream_works i at conn (handed_out (fed s piece)).fault (handed_out (fed s piece)).messages
piece_works i at conn piece None = []

-- what an event completes
abbrev pub works : HubState → Moment → Event → List Timed
works hub at (Datagram peer request) = record { at = at; work = Asked peer request } ∷ []
works hub at (Opened conn) = record { at = at; work = Begun conn } ∷ []
works hub at (Bytes conn piece) = piece_works hub.issuing at conn piece (map.get hub.connections conn)
works hub at (Closed conn) = record { at = at; work = Ended conn } ∷ []

-- an event with enough memory
pub record Happening : Type 0 where
  pub at : Moment
  pub event : Event

abbrev pub entries : List Happening → List Entry
entries [] = []
entries (h ∷ hs) = record { at = h.at; event = h.event; stop = None } ∷ entries hs

-- what a run completes, in order
abbrev pub all_works : HubState → List Happening → List Timed
all_works hub [] = []
all_works hub (h ∷ hs) = works hub h.at h.event ++ all_works (hub_step hub h.at h.event).hub hs
