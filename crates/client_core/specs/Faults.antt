-- Why a reply is rejected, and what a call returns if memory may run out.
use Rattle.std.specs.Prelude.{◌≡◌, Result, Ok, Err}
use Rattle.client_core.specs.declared.fault.ReplyError.{ReplyError}
use Rattle.client_core.specs.declared.fault.ReplyError.TheVariants as faults
use Rattle.client_core.specs.declared.fault.ReplyRefusal.{ReplyRefusal}
use Rattle.client_core.specs.declared.fault.ReplyRefusal.TheVariants.{Mismatched, Unopened}

abbrev pub fault_of : ReplyRefusal → ReplyError
fault_of (Mismatched what) = faults.Mismatch what
fault_of Unopened = faults.CannotOpen

-- what is found, or the fault for the rejection
abbrev pub unless_rejected : {A : Type 0} → Result A ReplyRefusal → Result A ReplyError
unless_rejected (Ok x) = Ok x
unless_rejected (Err rejection) = Err (fault_of rejection)

abbrev pub Fails : {A : Type 0} → ReplyError → Result A ReplyError → Type 0
Fails faults.Memory wanted = Unit {0}
Fails fault wanted = wanted ≡ Err fault

-- A call returned what it should, unless memory ran out.
abbrev pub Gives : {A : Type 0} → Result A ReplyError → Result A ReplyError → Type 0
Gives (Ok x) wanted = wanted ≡ Ok x
Gives (Err fault) wanted = Fails fault wanted

-- The same for two results in one: nothing is known if memory ran out.
abbrev pub IsGiven : {A E : Type 0} → Result (Result A ReplyError) E → Result A ReplyError → Type 0
IsGiven (Ok found) result = result ≡ found
IsGiven (Err e) result = result ≡ Err faults.Memory
