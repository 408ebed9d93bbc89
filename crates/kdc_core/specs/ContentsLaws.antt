-- The contents of a request give the names of its client and its service, so it is answered from the view of these.
use Rattle.std.proofs.Common.{◌≡◌, ℕ, List, Option, Some, None, Result, Ok, Err, refl, sym, ap, subst, ◌∙◌}
use Rattle.std.specs.Prelude.{⊤, IfOk}
use Rattle.krb_fields.specs.Name.{Components}
use Rattle.krb_types.specs.EncTicketPart.{EncTicketPart}
use Rattle.krb_types.specs.declared.kdc_req.Exchange.{Exchange}
use Rattle.krb_types.specs.declared.kdc_req.Exchange.TheVariants.{As, Tgs}
use Rattle.krb_types.specs.KdcReq.{Received}
use Rattle.kdc_replies.specs.Incoming.{Incoming}
use Rattle.tgs_opening.specs.Opening.{opened_ticket, presented}
use Rattle.tgs_opening.specs.OpeningLaws.{ticket_opened}
use Rattle.tgs_opening.specs.View.{TicketView}
use Rattle.tgs_opening.specs.declared.presented.Presented.{Presented}
use Rattle.tgs_opening.specs.declared.rejection.OpeningRefusal.{OpeningRefusal}
use Rattle.kdc_state.specs.declared.state.State.{State}
use Rattle.kdc_core.specs.After.{after_reply}
use Rattle.kdc_core.specs.Answer.{contents_answer, incoming_answer, keep, after_incoming}
use Rattle.kdc_core.specs.Answer.{IsReply, IsContentsReply, ReplyOpens}
use Rattle.kdc_core.specs.Answer.{ContentsOpen}
use Rattle.kdc_core.specs.Contents.{contents, message_contents, names_answered, tgs_contents}
use Rattle.kdc_core.specs.Request.{Request, request_of}
use Rattle.kdc_core.specs.View.{Named, ticket_client, components_of, named, asked_names, request_names}
use Rattle.kdc_core.specs.View.{ticket_view, view, named_view}
use Rattle.kdc_core.specs.Held.{Contents}
use Rattle.kdc_core.specs.Held.Contents.{NoRequest, AsReq, RefusedTgsReq, TgsReq}
use Rattle.kdc_core.specs.declared.mark.Mark.{Mark}

-- ---- what is presented has the client of the decrypted ticket

pub presented_client : (v : TicketView) (message : Received) (p : Presented) → presented v message ≡ Ok p
    → ticket_client (opened_ticket v message) ≡ Some p.ticket.cname.components
presented_client v message p e =
    let (o, opens, same) = ticket_opened v message p e in
    ap ticket_client opens ∙ ap (λ (part : EncTicketPart). Some part.cname.components) same

-- ---- so the contents give the names of the request

abbrev pub AreNamesOf : Named → Contents → Type 0
AreNamesOf names NoRequest = ⊤
AreNamesOf names (AsReq message) = names ≡ names_answered (AsReq message)
AreNamesOf names (RefusedTgsReq message rejected) = ⊤
AreNamesOf names (TgsReq message p) = names ≡ names_answered (TgsReq message p)

module _ (state : State) where
  tgs_names : (message : Received) (r : Result Presented OpeningRefusal) → presented (ticket_view state message) message ≡ r
      → AreNamesOf (request_names state (record { exchange = Tgs; message = message })) (tgs_contents message r)
  tgs_names message (Ok p) is = λ i. record {
    client = presented_client (ticket_view state message) message p is i;
    service = components_of message.body.value.sname;
  }
  tgs_names message (Err rejected) is = tt

  names_in : (exchange : Exchange) (message : Received)
      → AreNamesOf (request_names state (record { exchange = exchange; message = message }))
      (message_contents (named_view state (request_names state (record { exchange = exchange; message = message })))
      exchange message)
  names_in As message = refl
  names_in Tgs message = tgs_names message (presented (ticket_view state message) message) refl

  pub are_names_of : (request : Option Request)
      → AreNamesOf (asked_names state request) (contents (named_view state (asked_names state request)) request)
  are_names_of (Some request) = names_in request.exchange request.message
  are_names_of None = tt

-- ---- so the answer by these names is the answer

pub nothing_kept : (state : State) (c : Option Components) → keep state c None ≡ state
nothing_kept state (Some c) = refl
nothing_kept state None = refl

module _ {A E : Type 0} (state : State) (incoming : Incoming) (r : Result A E) where
  abbrev Answers : (A → Option (List ℕ)) → Named → Contents → Type 0
  Answers octets names held = IfOk r (λ a. octets a ≡ (contents_answer (named_view state names) incoming held).reply)

  pub reply_so : (octets : A → Option (List ℕ)) (names : Named) (held : Contents) → AreNamesOf names held
      → Answers octets (names_answered held) held → Answers octets names held
  reply_so octets names NoRequest names_are h = h
  reply_so octets names (AsReq message) names_are h = subst (λ (n : Named). Answers octets n (AsReq message)) (sym names_are) h
  reply_so octets names (RefusedTgsReq message rejected) names_are h = h
  reply_so octets names (TgsReq message p) names_are h =
      subst (λ (n : Named). Answers octets n (TgsReq message p)) (sym names_are) h

  abbrev Leaves : (A → Option (Option Mark)) → Named → Contents → Type 0
  Leaves mark names held =
      IfOk r (λ a. after_reply state (mark a) ≡ keep state names.client
      (contents_answer (named_view state names) incoming held).kept)

  nothing_left : (mark : A → Option (Option Mark)) (names : Named) → IfOk r (λ a. after_reply state (mark a) ≡ state)
      → IfOk r (λ a. after_reply state (mark a) ≡ keep state names.client None)
  nothing_left mark names h =
      subst (λ (s : State). IfOk r (λ a. after_reply state (mark a) ≡ s)) (sym (nothing_kept state names.client)) h

  pub after_so : (mark : A → Option (Option Mark)) (names : Named) (held : Contents) → AreNamesOf names held
      → Leaves mark (names_answered held) held → Leaves mark names held
  after_so mark names NoRequest names_are h = nothing_left mark names h
  after_so mark names (AsReq message) names_are h = subst (λ (n : Named). Leaves mark n (AsReq message)) (sym names_are) h
  after_so mark names (RefusedTgsReq message rejected) names_are h = nothing_left mark names h
  after_so mark names (TgsReq message p) names_are h = subst (λ (n : Named). Leaves mark n (TgsReq message p)) (sym names_are) h

  abbrev Spells : (A → Option (List ℕ)) → Named → Contents → Type 0
  Spells octets names held =
      IfOk r (λ a. IsContentsReply (named_view state names) incoming.at incoming.random (octets a) held)

  -- the bytes of the answer to a refused TGS-REQ depend on the realm alone
  refused_so : (o : Option (List ℕ)) (names other : Named) (message : Received) (rejected : OpeningRefusal)
      → IsContentsReply (named_view state names) incoming.at incoming.random o (RefusedTgsReq message rejected)
      → IsContentsReply (named_view state other) incoming.at incoming.random o (RefusedTgsReq message rejected)
  refused_so (Some octets) names other message rejected h = h
  refused_so None names other message rejected h = h

  unnamed_so : (o : Option (List ℕ)) (names other : Named)
      → IsContentsReply (named_view state names) incoming.at incoming.random o NoRequest
      → IsContentsReply (named_view state other) incoming.at incoming.random o NoRequest
  unnamed_so (Some octets) names other h = h
  unnamed_so None names other h = h

pub if_ok : {A E : Type 0} (r : Result A E) (P Q : A → Type 0) → ((a : A) → P a → Q a) → IfOk r P → IfOk r Q
if_ok (Ok a) P Q f h = f a h
if_ok (Err e) P Q f h = tt

module _ {A E : Type 0} (state : State) (incoming : Incoming) (r : Result A E) where
  pub spelled_so : (octets : A → Option (List ℕ)) (names : Named) (held : Contents) → AreNamesOf names held
      → Spells state incoming r octets (names_answered held) held → Spells state incoming r octets names held
  spelled_so octets names NoRequest names_are h =
      if_ok r _ _ (λ a. unnamed_so state incoming r (octets a) (names_answered NoRequest) names) h
  spelled_so octets names (AsReq message) names_are h =
      subst (λ (n : Named). Spells state incoming r octets n (AsReq message)) (sym names_are) h
  spelled_so octets names (RefusedTgsReq message rejected) names_are h =
      if_ok r _ _ (λ a. refused_so state incoming r (octets a)
      (names_answered (RefusedTgsReq message rejected)) names message rejected) h
  spelled_so octets names (TgsReq message p) names_are h =
      subst (λ (n : Named). Spells state incoming r octets n (TgsReq message p)) (sym names_are) h

  abbrev Opens : Named → Contents → Type 0
  Opens names held = IfOk r (λ a. ContentsOpen (named_view state names) incoming.at incoming.random held)

  pub opens_so : (names : Named) (held : Contents) → AreNamesOf names held → Opens (names_answered held) held → Opens names held
  opens_so names NoRequest names_are h = h
  opens_so names (AsReq message) names_are h = subst (λ (n : Named). Opens n (AsReq message)) (sym names_are) h
  opens_so names (RefusedTgsReq message rejected) names_are h = h
  opens_so names (TgsReq message p) names_are h = subst (λ (n : Named). Opens n (TgsReq message p)) (sym names_are) h

-- ---- for what was read from the bytes

module _ {A E : Type 0} (state : State) (incoming : Incoming) (r : Result A E) (held : Contents)
    (is : held ≡ contents (view state incoming.octets) (request_of incoming.octets)) where
  abbrev names : Named
  names = named state incoming.octets

  names_are : AreNamesOf names held
  names_are = subst (λ (h : Contents). AreNamesOf names h) (sym is) (are_names_of state (request_of incoming.octets))

  pub replies_so : (octets : A → Option (List ℕ)) → Answers state incoming r octets (names_answered held) held
      → IfOk r (λ a. octets a ≡ (incoming_answer (view state incoming.octets) incoming).reply)
  replies_so octets h =
      subst (λ (h : Contents). Answers state incoming r octets names h) is
      (reply_so state incoming r octets names held names_are h)

  pub leaves_so : (mark : A → Option (Option Mark)) → Leaves state incoming r mark (names_answered held) held
      → IfOk r (λ a. after_reply state (mark a) ≡ after_incoming state incoming)
  leaves_so mark h =
      subst (λ (h : Contents). Leaves state incoming r mark names h) is
      (after_so state incoming r mark names held names_are h)

  pub spells_so : (octets : A → Option (List ℕ)) → Spells state incoming r octets (names_answered held) held
      → IfOk r (λ a. IsReply (view state incoming.octets) incoming.at incoming.random (request_of incoming.octets)
      (octets a))
  spells_so octets h =
      subst (λ (h : Contents). Spells state incoming r octets names h) is
      (spelled_so state incoming r octets names held names_are h)

  pub opens_held : Opens state incoming r (names_answered held) held
      → IfOk r (λ a. ReplyOpens (view state incoming.octets) incoming.at incoming.random
      (request_of incoming.octets))
  opens_held h = subst (λ (h : Contents). Opens state incoming r names h) is (opens_so state incoming r names held names_are h)
