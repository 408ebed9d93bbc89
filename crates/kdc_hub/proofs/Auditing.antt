-- The audit records in replies are those of the rules, and they are true.
use Rattle.std.proofs.Common.{◌≡◌, ℕ, Bool, true, false, List, [], ◌∷◌, ◌++◌, length, Option, Some, None, option_map, Result, Ok, Err, Vec}
use Rattle.std.proofs.Common.{IfOk, IfSome, OnOk, sym, ap, subst, ◌∙◌}
use Rattle.std.specs.Global.{Global}
use Rattle.rand_core.specs.Stream.{fill_bytes}
use Rattle.framing.specs.Splitting.{Splitting, fed, handed_out}
use Rattle.krb_fields.specs.declared.moment.Moment.{Moment}
use Rattle.kdc_core.specs.Audit.{AuditRecord, AuditHolds, audit, audit_if}
use Rattle.kdc_core.specs.Answer.{after_request, answer}
use Rattle.kdc_core.specs.Answered.{IsAnswered, asked}
use Rattle.kdc_core.specs.NewlySeen.{newly_seen}
use Rattle.kdc_core.specs.ReplyIn.{sent_bytes, reported_seen}
use Rattle.kdc_core.specs.Request.{request_of}
use Rattle.kdc_core.specs.View.{View, view}
use Rattle.kdc_core.specs.declared.audit.AuditRecord.TheVariants.{NoRequest, As, Tgs}
use Rattle.kdc_state.specs.declared.state.State.{State}
use Rattle.replay.specs.declared.seen.Seen.{Seen}
use Rattle.kdc_hub.specs.Audits.{AuditsHold, FirstHold, ReplyHolds, if_answered}
use Rattle.kdc_hub.specs.Hub.{HubState, datagram_room, messages_in}
use Rattle.kdc_hub.specs.declared.event.Action.{Action}
use Rattle.kdc_hub.specs.declared.event.Event.{Event}
use Rattle.kdc_hub.specs.declared.event.Event.TheVariants.{Datagram}
use Rattle.kdc_hub.specs.declared.event.HubFault.{HubFault}
use Rattle.kdc_hub.specs.declared.event.Peer.{Peer}
use Rattle.kdc_hub.specs.Issuing.{Issuing, after, reply_by, reply_of}
use Rattle.kdc_core.specs.declared.reply.Reply.{Reply}

if_ok : {A E : Type 0} (r : Result A E) (P Q : A → Type 0) → IfOk r P → ((a : A) → P a → Q a) → IfOk r Q
if_ok (Ok a) P Q h f = f a h
if_ok (Err e) P Q h f = tt

on_ok : {A E : Type 0} (r : Result A E) (P : A → Type 0) (Q : Type 0) → IfOk r P → ((a : A) → P a → Q) → OnOk r Q
on_ok (Ok a) P Q h f = f a h
on_ok (Err e) P Q h f = tt

pub then_ok : {A E : Type 0} (r : Result A E) (P Q : Type 0) → OnOk r P → (P → Q) → OnOk r Q
then_ok (Ok a) P Q h f = f h
then_ok (Err e) P Q h f = tt

module _ (keeps : Bool) (v : View) (at : Moment) (random : List ℕ) (room : ℕ) (request : List ℕ) where
  -- a reply with these bytes, this audit record and this authenticator
  abbrev reply_with : Option (List ℕ) → Option AuditRecord → Option Seen → Option Reply
  reply_with octets a seen = option_map (λ message. record { message = message; audit = a; newly_seen = seen }) octets

  -- the reply of the rules
  made : (given : Option Reply) → sent_bytes given ≡ (answer v at random room request).reply
      → IfSome given (λ reply. reply.audit ≡ audit_if keeps (audit v at random room request))
      → reported_seen given ≡ newly_seen v at random room request → given ≡ reply_by keeps v at random room request
  unfolding reply_by
  made (Some reply) octets_are is seen_is = λ k. reply_with (octets_are k) (is k) (seen_is k)
  made None octets_are is seen_is =
      λ k. reply_with (octets_are k) (audit_if keeps (audit v at random room request)) (newly_seen v at random room request)

  true_of : (b : Bool) (o : Option (List ℕ)) (a : AuditRecord) → AuditHolds v at random (request_of request) a o
      → ReplyHolds v at random request (reply_with o (audit_if b a) (newly_seen v at random room request))
  true_of true (Some octets) a h = h
  true_of false (Some octets) a h = tt
  true_of b None NoRequest h = h
  true_of b None (As client service outcome) h = absurd h.1
  true_of b None (Tgs client service outcome) h = absurd h.1

  -- and what its audit record states is true
  holds : (octets : Option (List ℕ)) → octets ≡ (answer v at random room request).reply
      → AuditHolds v at random (request_of request) (audit v at random room request) octets → ReplyHolds v at random request (reply_by keeps v at random room request)
  unfolding reply_by
  holds octets octets_are h =
      true_of keeps (answer v at random room request).reply (audit v at random room request)
      (subst (λ o. AuditHolds v at random (request_of request) (audit v at random room request) o) octets_are h)

-- of a call that answers
module _ {E : Type 0} (keeps : Bool) (before after_it : State) (at : Moment) (random : List ℕ) (room : ℕ) (request : List ℕ)
    (r : Result (Option Reply) E) (answers : IfOk r (λ given. IsAnswered before (asked at random room request) keeps given after_it)) where
  abbrev v : View
  v = view before request

  pub all_made : IfOk r (λ given. given ≡ reply_by keeps v at random room request)
  all_made = if_ok r _ _ answers (λ given a. made keeps v at random room request given a.reply a.audit a.newly_seen)

  pub all_hold : IfOk r (λ given. ReplyHolds v at random request given)
  all_hold =
      if_ok r _ _ answers (λ given a. subst (λ reply. ReplyHolds v at random request reply)
      (sym (made keeps v at random room request given a.reply a.audit a.newly_seen))
      (holds keeps v at random room request (sent_bytes given) a.reply a.holds))

  pub all_after : OnOk r (after_it ≡ after_request before at random room request)
  all_after = on_ok r _ _ answers (λ given a. a.state)

pub if_any : (r : Option Reply) (P : Type 0) → P → if_answered r P
if_any (Some reply) P p = p
if_any None P p = tt

-- a request that is answered alone
pub one_holds : (i : Issuing) (at : Moment) (room : ℕ) (request : List ℕ) (n : ℕ) → n ≡ 1
    → ReplyHolds (view i.kdc request) at (fill_bytes 64 i.random).0 request (reply_of i at room request) → FirstHold n i at room (request ∷ [])
unfolding FirstHold
one_holds i at room request n e one =
    subst (λ m. FirstHold m i at room (request ∷ [])) (sym e)
    (one, if_any (reply_of i at room request) (FirstHold 0 (after i at room request) at room []) tt)

-- if nothing was answered
pub none_hold : (i : Issuing) (at : Moment) (room : ℕ) (requests : List (List ℕ)) (n : ℕ) → n ≡ 0 → FirstHold n i at room requests
unfolding FirstHold
none_hold i at room requests n e = subst (λ m. FirstHold m i at room requests) (sym e) tt

-- a datagram
module _ (hub : HubState) (at : Moment) (peer : Peer) (request : List ℕ) (event : Event) (datagram : event ≡ Datagram peer request) where
  -- nothing was answered
  pub datagram_unanswered : (fault : HubFault) → fault.done.items ≡ [] → AuditsHold hub at event (Err fault)
  datagram_unanswered fault none =
      subst (λ e. AuditsHold hub at e (Err fault)) (sym datagram) (none_hold hub.issuing at datagram_room (request ∷ []) (length fault.done.items) (ap (λ l. length l) none))

  -- it was answered
  pub datagram_holds : (octets : List ℕ) (reply : Option Reply) (actions : Vec Action Global) → octets ≡ request → length actions.items ≡ 1 → reply ≡ reply_of hub.issuing at datagram_room octets
      → ReplyHolds (view hub.issuing.kdc octets) at (fill_bytes 64 hub.issuing.random).0 octets reply → AuditsHold hub at event (Ok actions)
  datagram_holds octets reply actions same one made holds =
      subst (λ e. AuditsHold hub at e (Ok actions)) (sym datagram)
      (subst (λ o. FirstHold (length actions.items) hub.issuing at datagram_room (o ∷ [])) same
      (one_holds hub.issuing at datagram_room octets (length actions.items) one (subst (λ r. ReplyHolds (view hub.issuing.kdc octets) at (fill_bytes 64 hub.issuing.random).0 octets r) made holds)))

-- the requests that a piece completes
pub fed_hold : (i : Issuing) (at : Moment) (room : ℕ) (piece : List ℕ) (o : Option Splitting) (s f : Splitting) (n : ℕ) → o ≡ Some s → f ≡ fed s piece
    → FirstHold n i at room (handed_out f).messages → FirstHold n i at room (messages_in piece o)
fed_hold i at room piece o s f n is feed h =
    subst (λ x. FirstHold n i at room (messages_in piece x)) (sym is) (subst (λ (x : Splitting). FirstHold n i at room (handed_out x).messages) feed h)

-- a list that had nothing before a push has one entry
pub one_pushed : {X : Type 0} (new old : List X) (x : X) → new ≡ old ++ x ∷ [] → old ≡ [] → length new ≡ 1
one_pushed new old x pushed none = ap (λ l. length l) (pushed ∙ ap (λ l. l ++ x ∷ []) none)
