-- What was read is the request that the bytes encode, and its contents.
use Rattle.std.proofs.Common.{◌≡◌, ℕ, List, Option, Some, None, ap}
use Rattle.krb_types.specs.declared.kdc_req.Exchange.{Exchange}
use Rattle.krb_types.specs.KdcReq.{Received}
use Rattle.kdc_state.specs.declared.state.State.{State}
use Rattle.kdc_core.specs.Contents.{contents, message_contents}
use Rattle.kdc_core.specs.Held.Contents.{NoRequest}
use Rattle.kdc_core.specs.Request.{Request, request_of, requested}
use Rattle.kdc_core.specs.View.{asked_names, view, message_view, named_view}

module _ (state : State) (bytes : List ℕ) where
  pub contents_read : (exchange : Exchange) (message : Received) → Some (requested (exchange, message)) ≡ request_of bytes
      → message_contents (message_view state exchange message) exchange message ≡ contents (view state bytes) (request_of bytes)
  contents_read exchange message = ap (λ (o : Option Request). contents (named_view state (asked_names state o)) o)

  pub none_read : None ≡ request_of bytes → NoRequest ≡ contents (view state bytes) (request_of bytes)
  none_read = ap (λ (o : Option Request). contents (named_view state (asked_names state o)) o)
