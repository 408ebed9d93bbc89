-- What C sees of a call: the number of a status, and what that status means.
use Rattle.std.specs.Prelude.{◌≡◌, ◌⊎◌, ℕ, ℤ, Bool, true, false, List, Option, Some, None, length}
use Rattle.enctypes.specs.Sealing.{mac, opened, seal}
use Rattle.krb_elements.specs.Simple.{IsMicrosecond}
use Rattle.krb_fields.specs.Moment.{IsSecond}
use Rattle.krb_fields.specs.declared.moment.Moment.{Moment}
use Rattle.replay.specs.declared.opening.Opening.{Opening}
use Rattle.replay.specs.declared.opening.Opening.TheVariants.{First, Restart}
use Rattle.ap_accept_c.specs.Buffers.{texted}
use Rattle.ap_accept_c.specs.Calls.{IsAccepted, IsChecked, IsClosing, IsFetched, IsNaming, IsOpening, IsReplacing}
use Rattle.ap_accept_c.specs.Calls.{IsResuming}
use Rattle.ap_accept_c.specs.Calls.{IsSaving, Numbered}
use Rattle.ap_accept_c.specs.Elements.{IsElement}
use Rattle.ap_accept_c.specs.Part.{part_numbered}
use Rattle.ap_accept_c.specs.Protection.{key_in, verified, IsDone, IsMade, IsRefused, IsSharedKey, IsUnsealed}
use Rattle.ap_accept_c.specs.declared.elements.Place.{Place}
use Rattle.ap_accept_c.specs.declared.exports.Found.{Found}
use Rattle.ap_accept_c.specs.declared.numbers.Numbers.{Numbers}
use Rattle.ap_accept_c.specs.declared.part.Part.{Part}
use Rattle.ap_accept_c.specs.declared.protection.Sealing.{Sealing}
use Rattle.ap_accept_c.specs.declared.raw_key.RawKey.{RawKey}
use Rattle.ap_accept_c.specs.declared.service.Service.{Service}
use Rattle.ap_accept_c.specs.declared.status.Status.{Status}
use Rattle.ap_accept_c.specs.declared.status.Status.TheVariants.{BadArgument}

abbrev pub IsAt : Moment → ℤ → ℕ → Type 0
IsAt at sec usec = (at.sec ≡ sec) × (at.usec ≡ usec)

abbrev pub opening_at : Bool → Moment → Opening
opening_at true at = First
opening_at false at = Restart at

-- the numbers name no moment: a bad argument, which changes nothing
pub record IsNoMoment (status : Status) (old new : Option Service) (sec : ℤ) (usec : ℕ) : Type 0 where
  pub none : IsSecond sec × IsMicrosecond usec → ⊥
  pub refused : status ≡ BadArgument
  pub kept : new ≡ old

-- the numbers name this moment
pub record AtMoment (sec : ℤ) (usec : ℕ) (P : Moment → Type 0) : Type 0 where
  pub at : Moment
  pub same : IsAt at sec usec
  pub holds : P at

abbrev pub IsOpenAt : Status → Option Service → Option Service → List ℕ → ℕ → Bool → ℤ → ℕ → Type 0
IsOpenAt status old new keytab remembered is_first sec usec =
    IsNoMoment status old new sec usec
    ⊎ AtMoment sec usec (λ at. IsOpening status old new keytab remembered (opening_at is_first at))

-- the same for an AP-REQ that came in at the moment that these numbers name, if there is one
pub record IsAcceptedAt (status : Status) (old new : Option Service) (sec : ℤ) (usec : ℕ) (confounder octets : List ℕ)
    (numbers : Numbers) : Type 0 where
  pub none : (IsSecond sec × IsMicrosecond usec → ⊥) → (status ≡ BadArgument) × (new ≡ old)
  pub accepted : (at : Moment) → IsAt at sec usec → IsAccepted status old new at confounder octets numbers

abbrev pub IsOpenCall : ℤ → Option Service → Option Service → List ℕ → ℕ → Bool → ℤ → ℕ → Type 0
IsOpenCall n old new keytab remembered is_first sec usec =
    Numbered n (λ status. IsOpenAt status old new keytab remembered is_first sec usec)

abbrev pub IsResumeCall : ℤ → Option Service → Option Service → List ℕ → ℕ → List ℕ → Type 0
IsResumeCall n old new keytab remembered saved =
    Numbered n (λ status. IsResuming status old new keytab remembered saved)

abbrev pub IsSaveCall : ℤ → Option Service → List ℕ → List ℕ → ℕ → Type 0
IsSaveCall n service old new len = Numbered n (λ status. IsSaving status service old new len)

abbrev pub IsReplaceCall : ℤ → Option Service → Option Service → List ℕ → Type 0
IsReplaceCall n old new keytab = Numbered n (λ status. IsReplacing status old new keytab)

abbrev pub IsNameCall : ℤ → Option Service → Option Service → List ℕ → Type 0
IsNameCall n old new text = Numbered n (λ status. IsNaming status old new text)

abbrev pub IsAcceptCall : ℤ → Option Service → Option Service → ℤ → ℕ → List ℕ → List ℕ → Numbers → Type 0
IsAcceptCall n old new sec usec confounder octets numbers =
    Numbered n (λ status. IsAcceptedAt status old new sec usec confounder octets numbers)

abbrev pub IsFetchPart : Status → Option Part → Option Service → List ℕ → List ℕ → ℕ → Type 0
IsFetchPart status (Some part) service old new len = IsFetched status service part old new len
IsFetchPart status None service old new len = (status ≡ BadArgument) × (new ≡ old) × (len ≡ 0)

abbrev pub IsFetchCall : ℤ → Option Service → ℕ → List ℕ → List ℕ → ℕ → Type 0
IsFetchCall n service part old new len =
    Numbered n (λ status. IsFetchPart status (part_numbered part) service old new len)

abbrev pub IsElementCall : ℤ → Option Service → Place → List ℕ → List ℕ → Found → Type 0
IsElementCall n service place old new found =
    Numbered n (λ status. IsElement status service place old new found.len found.number)

abbrev pub IsCheckCall : ℤ → Option Service → List ℕ → Type 0
IsCheckCall n service octets = Numbered n (λ status. IsChecked status service octets)

abbrev pub IsKeyCall : ℤ → Option Service → RawKey → RawKey → Type 0
IsKeyCall n service old new = Numbered n (λ status. IsSharedKey status service old new)

-- ---- a key and a usage

abbrev pub IsSealCall : ℤ → RawKey → Sealing → List ℕ → List ℕ → List ℕ → ℕ → Type 0
IsSealCall n key sealing text old new len =
    Numbered n (λ status. IsDone (key_in key.number key.octets) sealing.usage (IsRefused status old new len)
    (λ k. IsMade status (seal k.etype k.bytes sealing.usage sealing.confounder text) old new len))

abbrev pub IsUnsealCall : ℤ → RawKey → ℕ → List ℕ → List ℕ → List ℕ → ℕ → Type 0
IsUnsealCall n key usage sealed old new len =
    Numbered n (λ status. IsDone (key_in key.number key.octets) usage (IsRefused status old new len)
    (λ k. IsUnsealed status (opened k.etype k.bytes usage sealed) old new len))

abbrev pub IsChecksumCall : ℤ → RawKey → ℕ → List ℕ → List ℕ → List ℕ → ℕ → Type 0
IsChecksumCall n key usage text old new len =
    Numbered n (λ status. IsDone (key_in key.number key.octets) usage (IsRefused status old new len)
    (λ k. IsMade status (mac k.etype k.bytes usage text) old new len))

abbrev pub IsVerifyCall : ℤ → RawKey → ℕ → List ℕ → List ℕ → Type 0
IsVerifyCall n key usage text octets =
    Numbered n (λ status. IsDone (key_in key.number key.octets) usage (status ≡ BadArgument)
    (λ k. status ≡ verified k usage text octets))

abbrev pub IsCloseCall : ℤ → Option Service → Type 0
IsCloseCall n old = Numbered n (λ status. IsClosing status old)

-- the buffer holds a text, cut to end with a NUL, and the result is the length of the whole text
pub record IsTextCall (len : ℕ) (old new : List ℕ) : Type 0 where
  pub text : List ℕ
  pub given : new ≡ texted text old
  pub long : len ≡ length text
