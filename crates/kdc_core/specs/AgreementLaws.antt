-- States that agree at what a request names give it the same view.
use Rattle.std.proofs.Common.{◌≡◌, ℕ, Bool, true, false, cond, List, Option, Some, None, refl, ap, sym, subst, ◌∙◌}
use Rattle.std.specs.Prelude.{IfSome}
use Rattle.std.specs.FinMap as map
use Rattle.std.specs.FinMap.{get-insert}
use Rattle.std.specs.Option.{unwrap_or}
use Rattle.std.specs.Ordering.{eq_by_cmp}
use Rattle.kdc_replies.specs.Incoming.{Incoming}
use Rattle.krb_fields.specs.Name.{Components, name_cmp, name_total}
use Rattle.krb_types.specs.declared.kdc_req.Exchange.{Exchange}
use Rattle.krb_types.specs.declared.kdc_req.Exchange.TheVariants.{As, Tgs}
use Rattle.krb_types.specs.KdcReq.{Received}
use Rattle.krb_fields.specs.Granting.{tgs_principal}
use Rattle.replay.specs.declared.keep.Kept.{Kept}
use Rattle.replay.specs.declared.cache.ReplayCache.{ReplayCache}
use Rattle.replay.specs.Tidied.{empty_cache}
use Rattle.kdc_state.specs.declared.state.State.{State}
use Rattle.kdc_state.specs.State.{cache_of}
use Rattle.tgs_opening.specs.Opening.{opened_ticket}
use Rattle.kdc_core.specs.Answer.{incoming_answer, keep, after_incoming}
use Rattle.kdc_core.specs.Request.{Request, request_of}
use Rattle.kdc_core.specs.View.{Agrees, message_client, ticket_client, components_of, cache_named, named, asked_names}
use Rattle.kdc_core.specs.View.{row_of}
use Rattle.kdc_core.specs.View.{ticket_view, view, named_view}

same_row : (state other : State) (c : Option Components)
    → IfSome c (λ c. map.get other.database.rows c ≡ map.get state.database.rows c) → row_of other c ≡ row_of state c
same_row state other (Some c) h = h
same_row state other None h = refl

same_cache : (state other : State) (c : Option Components)
    → IfSome c (λ c. (map.get other.database.rows c ≡ map.get state.database.rows c)
    × (cache_of other c ≡ cache_of state c))
    → (row_of other c ≡ row_of state c) × (cache_named other c ≡ cache_named state c)
same_cache state other (Some c) h = (h.0, h.1)
same_cache state other None h = (refl, refl)

same_client : (state other : State) (exchange : Exchange) (message : Received)
    → ticket_view other message ≡ ticket_view state message
    → message_client other exchange message ≡ message_client state exchange message
same_client state other As message e = refl
same_client state other Tgs message e = ap (λ v. ticket_client (opened_ticket v message)) e

module _ (state other : State) (realm : other.database.realm ≡ state.database.realm)
    (tgs : map.get other.database.rows (tgs_principal other.database.realm) ≡ map.get state.database.rows
    (tgs_principal state.database.realm)) where
  -- the service's rows agree, so both decrypt the presented ticket alike, and the clients are the same
  pub same_names : (o : Option Request) → row_of other (asked_names state o).service
      ≡ row_of state (asked_names state o).service
      → asked_names other o ≡ asked_names state o
  same_names (Some request) service =
      let ticket : ticket_view other request.message ≡ ticket_view state request.message = (λ i.
      record { realm = realm i; tgs = tgs i; service = service i }) in
      λ i. record {
        client = same_client state other request.exchange request.message ticket i;
        service = components_of
            request.message.body.value.sname;
      }
  same_names None service = refl

-- they name the same client and the same service
pub names_agree : (state other : State) (bytes : List ℕ) → Agrees state other bytes
    → named other bytes ≡ named state bytes
names_agree state other bytes a =
    let tgs : map.get other.database.rows (tgs_principal other.database.realm) ≡ map.get state.database.rows
    (tgs_principal state.database.realm) = ap (λ r. map.get other.database.rows (tgs_principal r)) a.realm
    ∙ a.tgs in
    same_names state other a.realm tgs (request_of bytes)
    (same_row state other (named state bytes).service a.service)

pub view_agrees : (state other : State) (bytes : List ℕ) → Agrees state other bytes
    → view other bytes ≡ view state bytes
view_agrees state other bytes a =
    let tgs : map.get other.database.rows (tgs_principal other.database.realm) ≡ map.get state.database.rows
    (tgs_principal state.database.realm) = ap (λ r. map.get other.database.rows (tgs_principal r)) a.realm
    ∙ a.tgs in
    let service : row_of other (named state bytes).service ≡ row_of state
    (named state bytes).service = same_row state other (named state bytes).service a.service in
    let client = same_cache state other (named state bytes).client a.client in
    ap (named_view other) (names_agree state other bytes a) ∙ (λ i. record {
      realm = a.realm i;
      limits = a.limits i;
      client = client.0 i;
      service = service i;
      tgs = tgs i;
      cache = client.1 i;
    })

-- ---- and they agree there afterwards

-- a cache that both store is the same in both, and the others are as before
kept_alike : (state other : State) (c n : Components) (m : ReplayCache Kept) → cache_of other n ≡ cache_of state n
    → cache_of (keep other (Some c) (Some m)) n ≡ cache_of (keep state (Some c) (Some m)) n
kept_alike state other c n m h =
    ap (λ o. unwrap_or o (empty_cache other.floor)) (get-insert name_total other.caches c m n)
    ∙ at (eq_by_cmp name_cmp n c)
    ∙ sym (ap (λ o. unwrap_or o (empty_cache state.floor)) (get-insert name_total state.caches c m n))
  where
    at : (b : Bool) → unwrap_or (cond b (Some m) (map.get other.caches n)) (empty_cache other.floor) ≡ unwrap_or
        (cond b (Some m) (map.get state.caches n)) (empty_cache state.floor)
    at true = refl
    at false = h

client_alike : (state other : State) (c : Components) (m : ReplayCache Kept) (o : Option Components)
    → IfSome o (λ n. (map.get other.database.rows n ≡ map.get state.database.rows n)
    × (cache_of other n ≡ cache_of state n))
    → IfSome o (λ n. (map.get other.database.rows n ≡ map.get state.database.rows n)
    × (cache_of (keep other (Some c) (Some m)) n ≡ cache_of (keep state (Some c) (Some m)) n))
client_alike state other c m (Some n) h = (h.0, kept_alike state other c n m h.1)
client_alike state other c m None h = tt

keep_agrees : (state other : State) (bytes : List ℕ) (c : Option Components) (m : Option (ReplayCache Kept))
    → Agrees state other bytes → Agrees (keep state c m) (keep other c m) bytes
keep_agrees state other bytes (Some c) (Some m) a =
    record {
      realm = a.realm;
      limits = a.limits;
      tgs = a.tgs;
      client = client_alike state other c m
          (named state bytes).client a.client;
      service = a.service;
    }
keep_agrees state other bytes (Some c) None a = a
keep_agrees state other bytes None m a = a

pub after_agrees : (state other : State) (incoming : Incoming) → Agrees state other incoming.octets
    → Agrees (after_incoming state incoming) (after_incoming other incoming) incoming.octets
after_agrees state other incoming a =
    let bytes = incoming.octets in
    subst (λ (s : State). Agrees (after_incoming state incoming) s bytes)
    (λ i. keep other (sym (names_agree state other bytes a) i).client
    (incoming_answer (sym (view_agrees state other bytes a) i) incoming).kept)
    (keep_agrees state other bytes (named state bytes).client (incoming_answer (view state bytes) incoming).kept a)
