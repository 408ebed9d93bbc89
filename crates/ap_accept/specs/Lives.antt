-- Processes one after the other: each resumes with the bytes that the one before saved when it ended.
use Rattle.std.specs.Prelude.{ℕ, ⊤, List, [], ◌∷◌, ◌++◌, Option, Some, None}
use Rattle.cred_files.specs.declared.keytab_entry.KeytabEntry.{KeytabEntry}
use Rattle.krb_fields.specs.Name.{Components}
use Rattle.replay.specs.Run.{collected, EachOnce}
use Rattle.replay.specs.Stamp.{Stamp}
use Rattle.ap_accept.specs.Run.{Event, accepted_at, after_call, after_event}
use Rattle.ap_accept.specs.Saved.{resumed, Saves}
use Rattle.ap_accept.specs.declared.options.AcceptorOptions.{AcceptorOptions}
use Rattle.ap_accept.specs.declared.state.State.{State}

-- a process: what happens in it, the bytes that it saves in the end, and the keytab and the options with which the next
-- one resumes
pub record Life : Type 0 where
  pub events : List Event
  pub saved : List ℕ
  pub keytab : List KeytabEntry
  pub options : AcceptorOptions

abbrev pub after_events : State → List Event → State
after_events state [] = state
after_events state (event ∷ events) = after_events (after_event after_call state event) events

-- each process saved its last state: nothing was accepted between that and the end
abbrev pub EachSaved : Option State → List Life → Type 0
EachSaved (Some state) (life ∷ lives) =
    Saves (after_events state life.events) life.saved × EachSaved (resumed life.keytab life.options life.saved) lives
EachSaved (Some state) [] = ⊤
EachSaved None lives = ⊤

-- what the processes accept from a client for a service, in order; none runs after one that can't resume
abbrev pub accepted_through : Components → Components → Option State → List Life → List Stamp
accepted_through service client (Some state) (life ∷ lives) =
    collected (after_event after_call) (accepted_at service client) state life.events
    ++ accepted_through service client (resumed life.keytab life.options life.saved) lives
accepted_through service client (Some state) [] = []
accepted_through service client None lives = []

-- No authenticator is accepted twice for the same ticket realm, service and client, by one of the processes or by two.
abbrev pub ResumedOnce : Type 0
ResumedOnce =
    (state : State) (realm : List ℕ) (sname client : Components) (lives : List Life) → EachSaved (Some state) lives
    → EachOnce (accepted_through (realm ∷ sname) client (Some state) lives)
