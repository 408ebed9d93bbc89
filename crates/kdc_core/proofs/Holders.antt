-- Only who shows a ticket of a client changes what its replay cache has seen.
use Rattle.std.proofs.Common.{◌≡◌, Bool, true, false, cond, Option, Some, None, Result, Ok, Err, IfSome}
use Rattle.std.proofs.Common.{OnOk, OnErr, refl, ap, sym, subst, ◌∙◌}
use Rattle.std.specs.FinMap as map
use Rattle.std.specs.FinMap.{get-insert}
use Rattle.std.specs.Option.{unwrap_or}
use Rattle.std.specs.Ordering.{eq_by_cmp}
use Rattle.krb_fields.specs.Name.{Components, name_cmp, name_total, same_name}
use Rattle.krb_types.specs.KdcReq.{Received}
use Rattle.krb_types.specs.declared.kdc_req.Exchange.{Exchange}
use Rattle.krb_types.specs.declared.kdc_req.Exchange.TheVariants.{As, Tgs}
use Rattle.kdc_replies.specs.Incoming.{Incoming}
use Rattle.replay.specs.Tidied.{empty_cache}
use Rattle.replay.specs.declared.cache.ReplayCache.{ReplayCache}
use Rattle.replay.specs.declared.failures.Failures.{Failures}
use Rattle.replay.specs.declared.keep.Kept.{Kept}
use Rattle.as_exchange.specs.Answer.{as_answer}
use Rattle.tgs_exchange.specs.Answer.{tgs_answer}
use Rattle.tgs_opening.specs.Opening.{presented}
use Rattle.tgs_opening.specs.ShownLaws.{presented_shown}
use Rattle.tgs_opening.specs.declared.presented.Presented.{Presented}
use Rattle.tgs_opening.specs.declared.rejection.OpeningRefusal.{OpeningRefusal}
use Rattle.kdc_state.specs.State.{cache_of}
use Rattle.kdc_state.specs.declared.state.State.{State}
use Rattle.kdc_core.proofs.Frame.{other_kept}
use Rattle.kdc_core.specs.Answer.{after_incoming, contents_answer, counted, keep}
use Rattle.kdc_core.specs.Contents.{contents, message_contents, tgs_contents}
use Rattle.kdc_core.specs.ContentsLaws.{nothing_kept, presented_client}
use Rattle.kdc_core.specs.NewlySeen.{contents_seen, incoming_seen, seen_if_kept}
use Rattle.kdc_core.specs.Request.{Request, request_of}
use Rattle.kdc_core.specs.Shown.{IsSeenAlike, ShowsTicket}
use Rattle.kdc_core.specs.View.{View, as_view, cache_named, message_client, components_of, asked_names, request_names}
use Rattle.kdc_core.specs.View.{tgs_view, ticket_view, view, named_view}

seen_same : (old new : ReplayCache Kept) → new ≡ old → IsSeenAlike old new
seen_same old new e = record { floor = ap (λ (c : ReplayCache Kept). c.floor) e; pairs = ap (λ (c : ReplayCache Kept). c.pairs) e }

some_is : (a b : Components) → Some a ≡ Some b → a ≡ b
some_is a b e = cc

-- ---- another number of failures leaves what was seen

module _ (state : State) where
  by_name : (c n : Components) (failures : Failures) (same : Bool) → eq_by_cmp name_cmp n c ≡ same
      → IsSeenAlike (cache_of state n)
      (unwrap_or (cond same (Some (record (cache_of state c) { failures = failures })) (map.get state.caches n)) (empty_cache state.floor))
  by_name c n failures true is =
      let here : c ≡ n = sym (same_name n c is) in
      record { floor = ap (λ (k : Components). (cache_of state k).floor) here; pairs = ap (λ (k : Components). (cache_of state k).pairs) here }
  by_name c n failures false is = record { floor = refl; pairs = refl }

  counted_alike : (client : Option Components) (n : Components) (failures : Option Failures)
      → IsSeenAlike (cache_of state n) (cache_of (keep state client (counted (cache_named state client) failures)) n)
  counted_alike (Some c) n (Some f) =
      subst (λ (o : Option (ReplayCache Kept)). IsSeenAlike (cache_of state n) (unwrap_or o (empty_cache state.floor)))
      (sym (get-insert name_total state.caches c (record (cache_of state c) { failures = f }) n))
      (by_name c n f (eq_by_cmp name_cmp n c) refl)
  counted_alike (Some c) n None = record { floor = refl; pairs = refl }
  counted_alike None n failures = record { floor = refl; pairs = refl }

-- ---- a TGS-REQ that is accepted shows a ticket

module _ (state : State) (incoming : Incoming) where
  shows : (message : Received) → request_of incoming.octets ≡ Some (record { exchange = Tgs; message = message })
      → (p : Presented) → presented (ticket_view state message) message ≡ Ok p → (n : Components)
      → p.ticket.cname.components ≡ n → ShowsTicket state incoming.octets n
  shows message is p accepted n of_client = record {
    message = message;
    request = is;
    found = p;
    accepted = accepted;
    shown = presented_shown (ticket_view state message) message p accepted;
    of_client = of_client;
  }

  -- ---- so without a ticket of the client nothing is recorded for it

  module _ (n : Components) (unshown : ShowsTicket state incoming.octets n → ⊥) where
    tgs_alike : (message : Received) → request_of incoming.octets ≡ Some (record { exchange = Tgs; message = message })
        → (r : Result Presented OpeningRefusal) → presented (ticket_view state message) message ≡ r
        → IsSeenAlike (cache_of state n) (cache_of (keep state (message_client state Tgs message)
        (contents_answer (named_view state (request_names state (record { exchange = Tgs; message = message }))) incoming (tgs_contents message r)).kept) n)
    tgs_alike message is (Ok p) accepted =
        seen_same (cache_of state n) _ (other_kept state (message_client state Tgs message) _ n
        (λ e. unshown (shows message is p accepted n
        (some_is p.ticket.cname.components n (sym (presented_client (ticket_view state message) message p accepted) ∙ e)))))
    tgs_alike message is (Err rejected) accepted =
        seen_same (cache_of state n) _ (ap (λ (s : State). cache_of s n) (nothing_kept state (message_client state Tgs message)))

    exchange_alike : (exchange : Exchange) (message : Received)
        → request_of incoming.octets ≡ Some (record { exchange = exchange; message = message })
        → IsSeenAlike (cache_of state n) (cache_of (keep state (message_client state exchange message)
        (contents_answer (named_view state (request_names state (record { exchange = exchange; message = message }))) incoming
        (message_contents (named_view state (request_names state (record { exchange = exchange; message = message }))) exchange message)).kept) n)
    exchange_alike As message is =
        counted_alike state (components_of message.body.value.cname) n
        (as_answer (as_view (named_view state (request_names state (record { exchange = As; message = message })))) incoming message).failures
    exchange_alike Tgs message is = tgs_alike message is (presented (ticket_view state message) message) refl

    request_alike : (request : Option Request) → request_of incoming.octets ≡ request
        → IsSeenAlike (cache_of state n) (cache_of (keep state (asked_names state request).client
        (contents_answer (named_view state (asked_names state request)) incoming (contents (named_view state (asked_names state request)) request)).kept) n)
    request_alike (Some request) is = exchange_alike request.exchange request.message is
    request_alike None is = record { floor = refl; pairs = refl }

    pub unshown_alike : IsSeenAlike (cache_of state n) (cache_of (after_incoming state incoming) n)
    unshown_alike = request_alike (request_of incoming.octets) refl

  -- ---- and what is recorded is of a client whose ticket is shown

  recorded_shown : (message : Received) → request_of incoming.octets ≡ Some (record { exchange = Tgs; message = message })
      → (p : Presented) → presented (ticket_view state message) message ≡ Ok p → (kept : Option Kept)
      → IfSome (seen_if_kept p kept) (λ seen. ShowsTicket state incoming.octets seen.client.components)
  recorded_shown message is p accepted (Some kept) = shows message is p accepted p.ticket.cname.components refl
  recorded_shown message is p accepted None = tt

  tgs_shown : (message : Received) → request_of incoming.octets ≡ Some (record { exchange = Tgs; message = message })
      → (v : View) (r : Result Presented OpeningRefusal) → presented (ticket_view state message) message ≡ r
      → IfSome (contents_seen v incoming (tgs_contents message r)) (λ seen. ShowsTicket state incoming.octets seen.client.components)
  tgs_shown message is v (Ok p) accepted =
      recorded_shown message is p accepted (tgs_answer (tgs_view v) incoming message.body.value p).kept
  tgs_shown message is v (Err rejected) accepted = tt

  exchange_shown : (exchange : Exchange) (message : Received)
      → request_of incoming.octets ≡ Some (record { exchange = exchange; message = message })
      → IfSome (contents_seen (named_view state (request_names state (record { exchange = exchange; message = message }))) incoming
      (message_contents (named_view state (request_names state (record { exchange = exchange; message = message }))) exchange message))
      (λ seen. ShowsTicket state incoming.octets seen.client.components)
  exchange_shown As message is = tt
  exchange_shown Tgs message is =
      tgs_shown message is (named_view state (request_names state (record { exchange = Tgs; message = message })))
      (presented (ticket_view state message) message) refl

  request_shown : (request : Option Request) → request_of incoming.octets ≡ request
      → IfSome (contents_seen (named_view state (asked_names state request)) incoming (contents (named_view state (asked_names state request)) request))
      (λ seen. ShowsTicket state incoming.octets seen.client.components)
  request_shown (Some request) is = exchange_shown request.exchange request.message is
  request_shown None is = tt

  pub seen_shown : IfSome (incoming_seen (view state incoming.octets) incoming)
      (λ seen. ShowsTicket state incoming.octets seen.client.components)
  seen_shown = request_shown (request_of incoming.octets) refl

-- the state after a call that stores a cache or changes nothing
pub alike_either : {A B : Type 0} (r : Result A B) (old new after : State) (n : Components) → OnOk r (new ≡ after)
    → OnErr r (new ≡ old) → IsSeenAlike (cache_of old n) (cache_of after n) → IsSeenAlike (cache_of old n) (cache_of new n)
alike_either (Ok x) old new after n ok err alike = subst (λ (s : State). IsSeenAlike (cache_of old n) (cache_of s n)) (sym ok) alike
alike_either (Err x) old new after n ok err alike = seen_same (cache_of old n) (cache_of new n) (ap (λ (s : State). cache_of s n) err)
