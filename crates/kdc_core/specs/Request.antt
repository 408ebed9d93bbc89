-- The request that bytes encode.
use Rattle.std.specs.Prelude.{ℕ, List, length, nat_lt, Option, Some, None, Result, Ok, Err, if◌then◌else◌}
use Rattle.krb_der.specs.declared.fault.DerFault.{DerFault}
use Rattle.krb_elements.specs.Format.{whole}
use Rattle.krb_types.specs.declared.kdc_req.Exchange.{Exchange}
use Rattle.krb_types.specs.KdcReq.{Received, SpellsReceived, received_at}

-- an AS-REQ or a TGS-REQ, with the bytes of its body
pub record Request : Type 0 where
  pub exchange : Exchange
  pub message : Received

-- which bytes encode the request
abbrev pub SpellsRequest : Request → List ℕ → Type 0
SpellsRequest r bytes = SpellsReceived (r.exchange, r.message) bytes

abbrev pub requested : Exchange × Received → Request
requested found = record { exchange = found.0; message = found.1 }

abbrev pub if_read : Result (Exchange × Received) DerFault → Option Request
if_read (Ok found) = Some (requested found)
if_read (Err fault) = None

-- the request that all of the bytes encode; more than 2147483647 bytes are no request
abbrev pub request_of : List ℕ → Option Request
request_of bytes = if nat_lt 2147483647 (length bytes) then None else if_read (whole received_at bytes)
