-- The result of a step that may run out of memory.
use Rattle.std.specs.Prelude.{◌≡◌, ⊤, Result, Ok, Err}
use Rattle.ap_accept.specs.declared.fault.ApFault.{ApFault}
use Rattle.ap_accept.specs.declared.fault.ApFault.TheVariants.{NotAnApReq, Refused, Memory}
use Rattle.ap_req.specs.declared.refusal.ApRefusal.{ApRefusal}

abbrev pub Fails : {A : Type 0} → ApFault → Result A ApRefusal → Type 0
Fails NotAnApReq wanted = ⊥
Fails (Refused refusal) wanted = wanted ≡ Err refusal
Fails Memory wanted = ⊤

-- The result is the wanted value or refusal, unless memory ran out.
abbrev pub Gives : {A : Type 0} → Result A ApFault → Result A ApRefusal → Type 0
Gives (Ok x) wanted = wanted ≡ Ok x
Gives (Err fault) wanted = Fails fault wanted
