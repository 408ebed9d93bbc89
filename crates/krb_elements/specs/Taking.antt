-- Reading a value that owns its parts at the front of bytes.
use Rattle.std.specs.Prelude.{◌≡◌, ℕ, List, Result, Ok, Err}
use Rattle.krb_der.specs.declared.fault.DerFault.{DerFault}
use Rattle.krb_elements.specs.declared.fault.Fault.{Fault}
use Rattle.krb_elements.specs.Format.{Fails}

-- the value and the bytes after it are what reading gives, unless memory ran out
abbrev pub Takes : {X : Type 0} → Result X Fault → List ℕ → Result (X × List ℕ) DerFault → Type 0
Takes (Ok x) left read = read ≡ Ok (x, left)
Takes (Err e) left read = Fails e read
