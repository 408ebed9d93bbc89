-- Reading bytes gives the request that they encode.
use Rattle.std.proofs.Common.{◌≡◌, ◌↔◌, ℕ, ◌≤◌, Bool, true, false, cond, List, length, Option, Some, None, Result, Ok}
use Rattle.std.proofs.Common.{Err, refl, ap}
use Rattle.std.specs.Prelude.{nat_lt}
use Rattle.std.proofs.lemmas.Bool.{ltb-false, le-ltb}
use Rattle.krb_der.specs.declared.fault.DerFault.{DerFault}
use Rattle.krb_der.specs.Spelling.{IsBytes}
use Rattle.krb_elements.specs.Format.{whole}
use Rattle.krb_elements.specs.Laws.{IsWhole, whole_ok}
use Rattle.krb_types.specs.declared.kdc_req.Exchange.{Exchange}
use Rattle.krb_types.specs.KdcReq.{Received, SpellsReceived, received_at, received_ok}
use Rattle.kdc_core.specs.Request.{Request, SpellsRequest, if_read, request_of}

-- a request that was read was short enough
was_read : (too_long : Bool) (read : Result (Exchange × Received) DerFault) (r : Request)
    → cond too_long None (if_read read) ≡ Some r → (too_long ≡ false) × (read ≡ Ok (r.exchange, r.message))
was_read true read r e = absurd cc
was_read false (Ok x) r e = (refl, ap (λ (o : Option Request). again o) e)
  where
    again : Option Request → Result (Exchange × Received) DerFault
    again (Some q) = Ok (q.exchange, q.message)
    again None = Ok x
was_read false (Err fault) r e = absurd cc

all_read : IsWhole SpellsReceived (whole received_at)
all_read = whole_ok SpellsReceived received_at received_ok.reading

-- bytes encode a request, and there are no more than 2147483647 of them
request_spelled : (bytes : List ℕ) (r : Request) → IsBytes bytes → request_of bytes ≡ Some r
    → SpellsRequest r bytes × (length bytes ≤ 2147483647)
request_spelled bytes r fits e =
    let read = was_read (nat_lt 2147483647 (length bytes)) (whole received_at bytes) r e in
    (all_read.takes bytes (r.exchange, r.message) fits read.1, ltb-false 2147483647 (length bytes) read.0)

spelled_request : (bytes : List ℕ) (r : Request) → SpellsRequest r bytes × (length bytes ≤ 2147483647)
    → request_of bytes ≡ Some r
spelled_request bytes r s =
    rw (le-ltb 2147483647 (length bytes) s.1, all_read.again (r.exchange, r.message) bytes s.0) refl

pub request_is : (bytes : List ℕ) (r : Request) → IsBytes bytes
    → (request_of bytes ≡ Some r) ↔ (SpellsRequest r bytes × (length bytes ≤ 2147483647))
request_is bytes r fits = (request_spelled bytes r fits, spelled_request bytes r)
