-- What calls from C return, and the state that they leave.
use Rattle.std.specs.Prelude.{◌≡◌, ℕ, ℤ, List, [], Option, Some, None, length}
use Rattle.krb_fields.specs.declared.moment.Moment.{Moment}
use Rattle.replay.specs.declared.opening.Opening.{Opening}
use Rattle.ap_accept_c.specs.Buffers.{IsGiven}
use Rattle.ap_accept_c.specs.Last.{check_of, nothing, word_in}
use Rattle.ap_accept_c.specs.Numbers.{numbers_in}
use Rattle.ap_accept_c.specs.Part.{octets_of}
use Rattle.ap_accept_c.specs.Service.{IsOpened, IsOpenFault, IsRekeyed, IsResumed, IsResumeFault, IsSaved}
use Rattle.ap_accept_c.specs.Service.{IsNamed, IsTaken, judged}
use Rattle.ap_accept_c.specs.Status.{number_of}
use Rattle.ap_accept_c.specs.declared.numbers.Numbers.{Numbers}
use Rattle.ap_accept_c.specs.declared.part.Part.{Part}
use Rattle.ap_accept_c.specs.declared.service.Service.{Service}
use Rattle.ap_accept_c.specs.declared.status.Status.{Status}
use Rattle.ap_accept_c.specs.declared.status.Status.TheVariants.{Done, NoMemory, BadArgument, Closed, Absent}

-- ---- opening an acceptor

-- a closed acceptor opens, or the call returns why it can't
abbrev pub IsOpeningOf : Status → Option Service → List ℕ → ℕ → Opening → Type 0
IsOpeningOf Done (Some new) keytab remembered opening = IsOpened new keytab remembered opening
IsOpeningOf Done None keytab remembered opening = ⊥
IsOpeningOf status new keytab remembered opening = (new ≡ None) × IsOpenFault status keytab remembered

-- an open acceptor doesn't change
abbrev pub IsOpening : Status → Option Service → Option Service → List ℕ → ℕ → Opening → Type 0
IsOpening status (Some old) new keytab remembered opening = (status ≡ BadArgument) × (new ≡ Some old)
IsOpening status None new keytab remembered opening = IsOpeningOf status new keytab remembered opening

-- ---- resuming, and saving

abbrev pub IsResumingOf : Status → Option Service → List ℕ → ℕ → List ℕ → Type 0
IsResumingOf Done (Some new) keytab remembered saved = IsResumed new keytab remembered saved
IsResumingOf Done None keytab remembered saved = ⊥
IsResumingOf status new keytab remembered saved = (new ≡ None) × IsResumeFault status keytab remembered saved

-- an open acceptor doesn't change
abbrev pub IsResuming : Status → Option Service → Option Service → List ℕ → ℕ → List ℕ → Type 0
IsResuming status (Some old) new keytab remembered saved = (status ≡ BadArgument) × (new ≡ Some old)
IsResuming status None new keytab remembered saved = IsResumingOf status new keytab remembered saved

-- a closed acceptor has nothing to save
abbrev pub IsSaving : Status → Option Service → List ℕ → List ℕ → ℕ → Type 0
IsSaving status (Some service) old new len = IsSaved status service.acceptor old new len
IsSaving status None old new len = (status ≡ Closed) × (new ≡ old) × (len ≡ 0)

-- ---- replacing the keys

abbrev pub IsRekeyedTo : Status → Service → Option Service → List ℕ → Type 0
IsRekeyedTo status old (Some new) keytab = IsRekeyed status old new keytab
IsRekeyedTo status old None keytab = ⊥

-- a closed acceptor has no keys
abbrev pub IsReplacing : Status → Option Service → Option Service → List ℕ → Type 0
IsReplacing status (Some old) new keytab = IsRekeyedTo status old new keytab
IsReplacing status None new keytab = (status ≡ Closed) × (new ≡ None)

-- ---- accepting

abbrev pub IsTakenBy : Status → Service → Option Service → Moment → List ℕ → List ℕ → Numbers → Type 0
IsTakenBy status old (Some new) at confounder octets numbers =
    IsTaken status old new at octets (judged old at confounder octets) × (numbers ≡ numbers_in new.last)
IsTakenBy status old None at confounder octets numbers = ⊥

-- a closed acceptor accepts nothing
abbrev pub IsAccepted : Status → Option Service → Option Service → Moment → List ℕ → List ℕ → Numbers → Type 0
IsAccepted status (Some old) new at confounder octets numbers = IsTakenBy status old new at confounder octets numbers
IsAccepted status None new at confounder octets numbers = (status ≡ Closed) × (new ≡ None)
    × (numbers ≡ numbers_in nothing)

-- ---- the service that it accepts for

abbrev pub IsNamedTo : Status → Service → Option Service → List ℕ → Type 0
IsNamedTo status old (Some new) text = IsNamed status old new text
IsNamedTo status old None text = ⊥

-- a closed acceptor accepts for none
abbrev pub IsNaming : Status → Option Service → Option Service → List ℕ → Type 0
IsNaming status (Some old) new text = IsNamedTo status old new text
IsNaming status None new text = (status ≡ Closed) × (new ≡ None)

-- ---- parts of the last AP-REQ

-- the bytes, if there are any, are copied to the buffer, and their number is returned
abbrev pub IsFetchedOf : Status → Option (List ℕ) → List ℕ → List ℕ → ℕ → Type 0
IsFetchedOf NoMemory octets old new len = (new ≡ old) × (len ≡ 0)
IsFetchedOf status (Some octets) old new len = IsGiven status octets old new × (len ≡ length octets)
IsFetchedOf status None old new len = (status ≡ Absent) × (new ≡ old) × (len ≡ 0)

abbrev pub IsFetched : Status → Option Service → Part → List ℕ → List ℕ → ℕ → Type 0
IsFetched status (Some service) part old new len = IsFetchedOf status (octets_of part service.last) old new len
IsFetched status None part old new len = (status ≡ Closed) × (new ≡ old) × (len ≡ 0)

-- the name of the rule that refused it
abbrev pub word_of_held : Option Service → List ℕ
word_of_held (Some service) = word_in service.last.refusal
word_of_held None = []

-- the status for the authenticator's checksum over these bytes
abbrev pub IsChecked : Status → Option Service → List ℕ → Type 0
IsChecked status (Some service) octets = status ≡ check_of service.last.accepted octets
IsChecked status None octets = status ≡ Closed

-- ---- closing

-- done, or closed before
abbrev pub IsClosing : Status → Option Service → Type 0
IsClosing status (Some service) = status ≡ Done
IsClosing status None = status ≡ Closed

-- ---- status numbers

-- C sees the number of a status with this property
pub record Numbered (number : ℤ) (P : Status → Type 0) : Type 0 where
  pub status : Status
  pub is : number ≡ number_of status
  pub holds : P status
