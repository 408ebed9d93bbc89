-- An acceptor with the result of its last AP-REQ: how it opens, and what a call does to it.
use Rattle.std.specs.Prelude.{◌≡◌, ◌≤◌, ℕ, List, length, Option, Some, None, Result, Err, IsSome, IsUtf8}
use Rattle.std.specs.Result.{result_ok}
use Rattle.cred_files.specs.Keytab.{IsKeytab}
use Rattle.cred_files.specs.declared.keytab_entry.KeytabEntry.{KeytabEntry}
use Rattle.replay.specs.declared.opening.Opening.{Opening}
use Rattle.krb_fields.specs.Name.{Components}
use Rattle.krb_fields.specs.NameText.{IsNameText}
use Rattle.krb_fields.specs.PrincipalName.{Name}
use Rattle.krb_fields.specs.declared.moment.Moment.{Moment}
use Rattle.ap_accept.specs.Accepts.{Answer, accepts}
use Rattle.ap_accept.specs.Named.{accepts_for}
use Rattle.ap_accept.specs.Saved.{held_in, resumed, Saves}
use Rattle.ap_accept.specs.State.{opened, with_keytab}
use Rattle.ap_accept.specs.declared.accepted.Accepted.{Accepted}
use Rattle.ap_accept.specs.declared.fault.ApFault.{ApFault}
use Rattle.ap_accept.specs.declared.label.TicketLabel.{TicketLabel}
use Rattle.ap_accept.specs.declared.state.State.{State}
use Rattle.ap_accept_c.specs.Buffers.{IsGiven}
use Rattle.ap_accept.specs.declared.fault.ApFault.TheVariants as faults
use Rattle.ap_accept_c.specs.Last.{last_of, nothing, refusal_in}
use Rattle.ap_accept_c.specs.declared.service.Service.{Service}
use Rattle.ap_accept_c.specs.declared.status.Status.{Status}
use Rattle.ap_accept_c.specs.declared.status.Status.TheVariants.{Done, NotAnApReq, NoMemory, BadArgument, BadKeytab}
use Rattle.ap_accept_c.specs.declared.status.Status.TheVariants.{BadSaved, Refused}

-- it has the keys of the keytab that the bytes encode, accepts for each of its services, and has accepted nothing
pub record IsOpened (service : Service) (octets : List ℕ) (limit : ℕ) (opening : Opening) : Type 0 where
  pub keys : IsKeytab service.acceptor.keytab octets
  pub acceptor : service.acceptor ≡ opened service.acceptor.keytab service.acceptor.options opening
  pub remembered : service.acceptor.options.remembered ≡ limit
  pub only : service.only ≡ None
  pub last : service.last ≡ nothing

-- the bytes are not a keytab, or memory ran out
abbrev pub IsKeytabFault : Status → List ℕ → Type 0
IsKeytabFault BadKeytab octets = (keytab : List KeytabEntry) → IsKeytab keytab octets → ⊥
IsKeytabFault NoMemory octets = Unit {0}
IsKeytabFault status octets = ⊥

-- the same, or the number is out of range
abbrev pub IsOpenFault : Status → List ℕ → ℕ → Type 0
IsOpenFault BadArgument octets remembered = (1 ≤ remembered) × (remembered ≤ 65536) → ⊥
IsOpenFault status octets remembered = IsKeytabFault status octets

-- it goes on with what another acceptor saved, with the keys of the keytab that the bytes encode
pub record IsResumed (service : Service) (octets : List ℕ) (limit : ℕ) (saved : List ℕ) : Type 0 where
  pub keys : IsKeytab service.acceptor.keytab octets
  pub acceptor : resumed service.acceptor.keytab service.acceptor.options saved ≡ Some service.acceptor
  pub remembered : service.acceptor.options.remembered ≡ limit
  pub only : service.only ≡ None
  pub last : service.last ≡ nothing

-- the same as for opening, or the bytes are not those of a saved acceptor
abbrev pub IsResumeFault : Status → List ℕ → ℕ → List ℕ → Type 0
IsResumeFault BadSaved octets remembered saved = held_in saved ≡ None
IsResumeFault status octets remembered saved = IsOpenFault status octets remembered

-- bytes are copied to the buffer from which a later process resumes as this acceptor
pub record IsSavedIn (status : Status) (state : State) (old new : List ℕ) (len : ℕ) : Type 0 where
  pub bytes : List ℕ
  pub saves : Saves state bytes
  pub given : IsGiven status bytes old new
  pub long : len ≡ length bytes

abbrev pub IsSaved : Status → State → List ℕ → List ℕ → ℕ → Type 0
IsSaved NoMemory state old new len = (new ≡ old) × (len ≡ 0)
IsSaved status state old new len = IsSavedIn status state old new len

-- it has the keys of the keytab that the bytes encode, and is otherwise as it was
pub record HasKeytab (old new : Service) (octets : List ℕ) : Type 0 where
  pub keys : IsKeytab new.acceptor.keytab octets
  pub service : new ≡ record old { acceptor = with_keytab old.acceptor new.acceptor.keytab }

-- the keys are replaced, or nothing is
abbrev pub IsRekeyed : Status → Service → Service → List ℕ → Type 0
IsRekeyed Done old new octets = HasKeytab old new octets
IsRekeyed status old new octets = (new ≡ old) × IsKeytabFault status octets

-- ---- the service that it accepts for

-- no name for an empty text, else the name that it spells
abbrev pub IsName : Option Name → List ℕ → Type 0
IsName None text = length text ≡ 0
IsName (Some name) text = IsNameText name.components text

-- the text is that of no name, or memory ran out
abbrev pub IsNameFault : Status → List ℕ → Type 0
IsNameFault BadArgument text = IsUtf8 text → (name : Components) → IsNameText name text → ⊥
IsNameFault NoMemory text = Unit {0}
IsNameFault status text = ⊥

-- it accepts for the service of this name, and is otherwise as it was
pub record AcceptsFor (old new : Service) (text : List ℕ) : Type 0 where
  pub named : IsName new.only text
  pub service : new ≡ record old { only = new.only }

abbrev pub IsNamed : Status → Service → Service → List ℕ → Type 0
IsNamed Done old new text = AcceptsFor old new text
IsNamed status old new text = (new ≡ old) × IsNameFault status text

-- ---- accepting

-- the answer of the acceptor's rules, for the service of a name if there is one
abbrev pub judged_by : Option Name → State → Moment → List ℕ → List ℕ → Answer
judged_by (Some name) state at confounder octets = accepts_for name.components state at confounder octets
judged_by None state at confounder octets = accepts state at confounder octets

abbrev pub judged : Service → Moment → List ℕ → List ℕ → Answer
judged service at confounder octets = judged_by service.only service.acceptor at confounder octets

-- an answer is kept, unless memory ran out
abbrev pub keeping : Service → Moment → TicketLabel → Result Accepted ApFault → Service
keeping service at label (Err faults.Memory) = service
keeping service at label answer = record service {
  last = record { accepted = result_ok answer; label = Some label; refusal = refusal_in at answer };
}

-- the service after the answer that the acceptor's rules prescribe
abbrev pub after : Service → Moment → List ℕ → Answer → Service
after old at octets ruled =
    record { acceptor = ruled.state; only = old.only; last = last_of at octets ruled.answer }

-- the call's result and the state are those that the rules prescribe; a call that runs out of memory leaves the
-- acceptor unchanged
abbrev pub IsTaken : Status → Service → Service → Moment → List ℕ → Answer → Type 0
IsTaken Done old new at octets ruled = (new ≡ after old at octets ruled) × IsSome new.last.accepted
IsTaken NotAnApReq old new at octets ruled =
    (new ≡ after old at octets ruled) × (ruled.answer ≡ Err faults.NotAnApReq)
IsTaken (Refused refusal) old new at octets ruled =
    (new ≡ after old at octets ruled) × (ruled.answer ≡ Err (faults.Refused refusal))
IsTaken NoMemory old new at octets ruled = new ≡ record old { last = nothing }
IsTaken status old new at octets ruled = ⊥
