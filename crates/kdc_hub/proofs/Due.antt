-- What is sent to each is what is due to it.
use Rattle.std.proofs.Common.{◌≡◌, ℕ, zero, suc, Bool, true, false, List, [], ◌∷◌, ◌++◌, take, Option, Some, None, if◌then◌else◌, inl, inr, refl, sym, ap, ◌∙◌, append_assoc}
use Rattle.std.specs.Prelude.{◌&&◌, not, nat_lt}
use Rattle.std.specs.FinMap as map
use Rattle.std.specs.List.{AllByRecursion, flat_map, list_all}
use Rattle.std.specs.Option.{is_some}
use Rattle.std.proofs.lemmas.Grind.{flat_map-append}
use Rattle.framing.specs.declared.fault.FrameFault.{FrameFault}
use Rattle.framing.specs.Splitting.{Splitting, fed, handed_out, started}
use Rattle.krb_fields.specs.declared.moment.Moment.{Moment}
use Rattle.kdc_state.specs.declared.state.State.{State}
use Rattle.kdc_core.specs.Run.{after_event, event_reply, replies, run}
use Rattle.kdc_core.specs.declared.run.Event.{Event as KdcEvent}
use Rattle.kdc_hub.specs.declared.event.Action.{Action}
use Rattle.kdc_hub.specs.declared.event.Action.TheVariants.{SendTo, Pass, Write, Close}
use Rattle.kdc_hub.specs.declared.event.CloseReason.TheVariants.{Full}
use Rattle.kdc_hub.specs.declared.event.Event.{Event}
use Rattle.kdc_hub.specs.declared.event.Event.TheVariants.{Datagram, Opened, Bytes, Closed}
use Rattle.kdc_hub.specs.declared.event.Peer.{Peer}
use Rattle.kdc_core.specs.declared.reply.Reply.{Reply}
use Rattle.kdc_hub.specs.declared.wires.WireCall.{WireCall}
use Rattle.kdc_hub.specs.Issuing.{Issuing, after, reply_of, too_long}
use Rattle.kdc_hub.specs.StreamStep.{StreamStep, messages_step, reply_then, stream_room}
use Rattle.kdc_hub.specs.Hub.{HubState, Step, brings, datagram_room, greatest_request, hub_step, most_connections, nothing, sent}
use Rattle.kdc_hub.specs.Logged.{Entry, Stop, logged, step_by, step_of}
use Rattle.kdc_hub.specs.Rounds.{AreRounds, IsRound, PollFailed, NothingCame, Round, Took, Tries, closing, did_in, ending, entries_of}
use Rattle.kdc_hub.specs.History.{Turn, Stepped, Replaced, Tidied, Reopened, Resumed, after_turn, asked, octets_of, others_after, piece_requests, stream_requests}
use Rattle.kdc_hub.specs.Parties.{AtPeer, OnConnection, Ended, GetsItsOwn, Message, Parties, Party, RecordsItsOwn, Sent, actions_in, after_round, due_by, due_in, due_to_entry, due_to_event, due_to_fault, due_to_request, due_to_round, due_to_rounds, due_to_turn, fault_after, gets, receiver, sender, sent_by, tried, tried_by, turn_actions}
use Rattle.kdc_hub.proofs.Histories.{asked_after, asked_octets, turned_kdc}

-- ---- actions that are all for one

abbrev AreFor : Party → List Action → Type 0
AreFor who = AllByRecursion (λ action. receiver action ≡ who)

some_for : (who : Party) (n : ℕ) (actions : List Action) → AreFor who actions → AreFor who (take n actions)
some_for who zero actions a = tt
some_for who (suc n) [] a = tt
some_for who (suc n) (action ∷ actions) a = (a.0, some_for who n actions a.1)

module _ (these : Parties) where
  gets_both : (xs ys : List Action) → gets these (xs ++ ys) ≡ gets these xs ++ gets these ys
  gets_both [] ys = refl
  gets_both (x ∷ xs) ys = by_test (these (receiver x)) (gets_both xs ys)
    where
      by_test : (b : Bool) → gets these (xs ++ ys) ≡ gets these xs ++ gets these ys
          → (if b then sent_by x ++ gets these (xs ++ ys) else gets these (xs ++ ys)) ≡ (if b then sent_by x ++ gets these xs else gets these xs) ++ gets these ys
      by_test true e = ap (λ l. sent_by x ++ l) e ∙ sym (append_assoc (sent_by x) (gets these xs) (gets these ys))
      by_test false e = e

  either_none : (b : Bool) → [] ≡ (if b then [] else (let l : List Sent = [] in l))
  either_none true = refl
  either_none false = refl

  gets_all : (who : Party) (actions : List Action) → AreFor who actions → gets these actions ≡ (if these who then flat_map sent_by actions else [])
  gets_all who [] a = either_none (these who)
  gets_all who (x ∷ xs) a = ap (λ w. if these w then sent_by x ++ gets these xs else gets these xs) a.0 ∙ by_test (these who) (gets_all who xs a.1)
    where
      by_test : (b : Bool) → gets these xs ≡ (if b then flat_map sent_by xs else []) → (if b then sent_by x ++ gets these xs else gets these xs) ≡ (if b then flat_map sent_by (x ∷ xs) else [])
      by_test true e = ap (λ l. sent_by x ++ l) e
      by_test false e = e

-- each action on a connection sends one thing
first_sent : (conn n : ℕ) (actions : List Action) → AreFor (OnConnection conn) actions → flat_map sent_by (take n actions) ≡ take n (flat_map sent_by actions)
first_sent conn zero actions a = refl
first_sent conn (suc n) [] a = refl
first_sent conn (suc n) (SendTo peer reply ∷ actions) a = absurd (let e = a.0 in cc)
first_sent conn (suc n) (Pass peer ∷ actions) a = absurd (let e = a.0 in cc)
first_sent conn (suc n) (Write c reply ∷ actions) a = ap (λ l. Message reply.message ∷ l) (first_sent conn n actions a.1)
first_sent conn (suc n) (Close c reason ∷ actions) a = ap (λ l. Ended reason ∷ l) (first_sent conn n actions a.1)

-- ---- the messages of a stream

module _ (at : Moment) (conn : ℕ) (piece : List ℕ) (fault : Option FrameFault) where
  abbrev stream_due : List (Option (List ℕ)) → State → List Sent
  stream_due replied state = flat_map (due_to_request (Bytes conn piece)) replied ++ (if list_all is_some replied then due_to_fault state at fault else [])

  none_left : (i : Issuing) → flat_map sent_by (messages_step i at conn fault []).actions ≡ stream_due [] i.kdc
  unfolding messages_step too_long
  none_left i = by_fault fault
    where
      by_fault : (o : Option FrameFault) → flat_map sent_by (messages_step i at conn o []).actions ≡ due_to_fault i.kdc at o
      by_fault None = refl
      by_fault (Some f) = refl

  one_due : (i : Issuing) (m : List ℕ) (reply : Option Reply) → reply_of i at stream_room m ≡ reply → (requests : List KdcEvent) (others : StreamStep)
      → flat_map sent_by others.actions ≡ stream_due (replies (after i at stream_room m).kdc requests) (run (after i at stream_room m).kdc requests)
      → flat_map sent_by (reply_then conn reply (after i at stream_room m) others).actions
      ≡ stream_due (replies i.kdc (asked i at stream_room m ∷ others_after reply requests)) (run i.kdc (asked i at stream_room m ∷ others_after reply requests))
  one_due i m (Some reply) is requests others rest =
      let e : event_reply i.kdc (asked i at stream_room m) ≡ Some reply.message = asked_octets i at stream_room m ∙ ap octets_of is in
      let s = asked_after i at stream_room m in
      ap (λ l. Message reply.message ∷ l) rest ∙ (λ k. stream_due (sym e k ∷ replies (sym s k) requests) (run (sym s k) requests))
  one_due i m None is requests others rest =
      let e : event_reply i.kdc (asked i at stream_room m) ≡ None = asked_octets i at stream_room m ∙ ap octets_of is in
      λ k. stream_due (sym e k ∷ []) (after_event i.kdc (asked i at stream_room m))

  messages_due : (i : Issuing) (ms : List (List ℕ)) → flat_map sent_by (messages_step i at conn fault ms).actions ≡ stream_due (replies i.kdc (stream_requests i at ms)) (run i.kdc (stream_requests i at ms))
  unfolding stream_requests messages_step
  messages_due i [] = none_left i
  messages_due i (m ∷ ms) =
      one_due i m (reply_of i at stream_room m) refl (stream_requests (after i at stream_room m) at ms) (messages_step (after i at stream_room m) at conn fault ms)
      (messages_due (after i at stream_room m) ms)

  one_for : (reply : Option Reply) (i : Issuing) (others : StreamStep) → AreFor (OnConnection conn) others.actions → AreFor (OnConnection conn) (reply_then conn reply i others).actions
  one_for (Some reply) i others a = (refl, a)
  one_for None i others a = (refl, tt)

  end_for : (i : Issuing) (o : Option FrameFault) → AreFor (OnConnection conn) (messages_step i at conn o []).actions
  unfolding messages_step
  end_for i None = tt
  end_for i (Some f) = (refl, (refl, tt))

  messages_for : (i : Issuing) (ms : List (List ℕ)) → AreFor (OnConnection conn) (messages_step i at conn fault ms).actions
  unfolding messages_step
  messages_for i [] = end_for i fault
  messages_for i (m ∷ ms) = one_for (reply_of i at stream_room m) (after i at stream_room m) (messages_step (after i at stream_room m) at conn fault ms) (messages_for (after i at stream_room m) ms)

-- ---- one entry

datagram_due : (peer : Peer) (request : List ℕ) (reply : Option Reply) (octets : Option (List ℕ)) → octets ≡ octets_of reply
    → flat_map sent_by (sent peer reply) ≡ flat_map (due_to_request (Datagram peer request)) (octets ∷ []) ++ []
datagram_due peer request (Some reply) octets e = λ k. flat_map (due_to_request (Datagram peer request)) (sym e k ∷ []) ++ []
datagram_due peer request None octets e = λ k. flat_map (due_to_request (Datagram peer request)) (sym e k ∷ []) ++ []

datagram_for : (peer : Peer) (reply : Option Reply) → AreFor (AtPeer peer) (sent peer reply)
datagram_for peer (Some reply) = (refl, tt)
datagram_for peer None = (refl, tt)

module _ (hub : HubState) where
  abbrev opened_by : ℕ → Bool → Bool → Step
  opened_by conn there place =
      if there then nothing hub
      else if place then record { actions = []; hub = record hub { connections = map.insert hub.connections conn (started greatest_request) } }
      else record { actions = Close conn Full ∷ []; hub = hub }

  opened_due : (conn : ℕ) (there place : Bool) → flat_map sent_by (opened_by conn there place).actions ≡ (if not there && not place then Ended Full ∷ [] else [])
  opened_due conn true place = refl
  opened_due conn false true = refl
  opened_due conn false false = refl

  opened_for : (conn : ℕ) (there place : Bool) → AreFor (OnConnection conn) (opened_by conn there place).actions
  opened_for conn true place = tt
  opened_for conn false true = tt
  opened_for conn false false = (refl, tt)

  module _ (at : Moment) where
    piece_due : (conn : ℕ) (piece : List ℕ) (o : Option Splitting)
        → flat_map sent_by (brings hub at conn piece o).actions ≡ stream_due at conn piece (fault_after piece o) (replies hub.issuing.kdc (piece_requests hub.issuing at piece o)) (run hub.issuing.kdc (piece_requests hub.issuing at piece o))
    piece_due conn piece (Some s) = messages_due at conn piece (handed_out (fed s piece)).fault hub.issuing (handed_out (fed s piece)).messages
    piece_due conn piece None = refl

    piece_for : (conn : ℕ) (piece : List ℕ) (o : Option Splitting) → AreFor (OnConnection conn) (brings hub at conn piece o).actions
    piece_for conn piece (Some s) = messages_for at conn piece (handed_out (fed s piece)).fault hub.issuing (handed_out (fed s piece)).messages
    piece_for conn piece None = tt

    event_due : (event : Event) → flat_map sent_by (hub_step hub at event).actions ≡ due_to_event hub.issuing.kdc hub at event
    event_due (Datagram peer request) = datagram_due peer request (reply_of hub.issuing at datagram_room request) _ (asked_octets hub.issuing at datagram_room request)
    event_due (Opened conn) = opened_due conn (map.contains_key hub.connections conn) (nat_lt (map.len hub.connections) most_connections)
    event_due (Bytes conn piece) = piece_due conn piece (map.get hub.connections conn)
    event_due (Closed conn) = refl

    event_for : (event : Event) → AreFor (sender event) (hub_step hub at event).actions
    event_for (Datagram peer request) = datagram_for peer (reply_of hub.issuing at datagram_room request)
    event_for (Opened conn) = opened_for conn (map.contains_key hub.connections conn) (nat_lt (map.len hub.connections) most_connections)
    event_for (Bytes conn piece) = piece_for conn piece (map.get hub.connections conn)
    event_for (Closed conn) = tt

    step_due : (stop : Option Stop) (event : Event) → flat_map sent_by (step_by stop hub at event).actions ≡ due_by stop hub.issuing.kdc hub at event
    step_due None event = event_due event
    step_due (Some stop) (Datagram peer request) = refl
    step_due (Some stop) (Opened conn) = refl
    step_due (Some stop) (Bytes conn piece) =
        first_sent conn stop.done (hub_step hub at (Bytes conn piece)).actions (event_for (Bytes conn piece)) ∙ ap (take stop.done) (event_due (Bytes conn piece))
    step_due (Some stop) (Closed conn) = refl

    step_for : (stop : Option Stop) (event : Event) → AreFor (sender event) (step_by stop hub at event).actions
    step_for None event = event_for event
    step_for (Some stop) (Datagram peer request) = tt
    step_for (Some stop) (Opened conn) = tt
    step_for (Some stop) (Bytes conn piece) = some_for (OnConnection conn) stop.done (hub_step hub at (Bytes conn piece)).actions (event_for (Bytes conn piece))
    step_for (Some stop) (Closed conn) = tt

entry_gets : (these : Parties) (hub : HubState) (entry : Entry) → gets these (step_of hub entry).actions ≡ due_to_entry these hub.issuing.kdc hub entry
entry_gets these hub entry =
    gets_all these (sender entry.event) (step_of hub entry).actions (step_for hub entry.at entry.stop entry.event)
    ∙ ap (λ l. if these (sender entry.event) then l else []) (step_due hub entry.at entry.stop entry.event)

-- ---- histories

turn_gets : (these : Parties) (hub : HubState) (turn : Turn) → gets these (turn_actions hub turn) ≡ due_to_turn these hub.issuing.kdc hub turn
turn_gets these hub (Stepped entry) = entry_gets these hub entry
turn_gets these hub (Replaced database) = refl
turn_gets these hub (Tidied at) = refl
turn_gets these hub (Reopened database limits at random kept) = refl
turn_gets these hub (Resumed database limits resumption random kept) = refl

pub gets_its_own : GetsItsOwn
gets_its_own these start [] = refl
gets_its_own these start (turn ∷ turns) =
    gets_both these (turn_actions start turn) (actions_in (after_turn start turn) turns)
    ∙ (λ k. turn_gets these start turn k
    ++ (gets_its_own these (after_turn start turn) turns ∙ ap (λ s. due_in these s (after_turn start turn) turns) (turned_kdc start turn)) k)

-- ---- the record of a Wire

tried_are : (xs : List Action) (did : List WireCall) → Tries xs did → tried did ≡ xs
unfolding Tries
tried_are [] did t = ap tried t
tried_are (x ∷ xs) did t = elim t.1 [
  | inl e ↦ ap tried e ∙ ap (λ l. x ∷ l) (tried_are xs t.0 t.2)
  | inr e ↦ ap tried e ∙ ap (λ l. x ∷ l) (tried_are xs t.0 t.2)
]

round_gets : (these : Parties) (hub : HubState) (round : Round) → IsRound hub round → gets these (tried (did_in round)) ≡ due_to_round these hub.issuing.kdc hub round
round_gets these hub PollFailed is = refl
round_gets these hub (NothingCame at) is = refl
round_gets these hub (Took entry acts close) is =
    ap (gets these) (flat_map-append tried_by acts close ∙ (λ k. tried_are (step_of hub entry).actions acts is.0 k ++ tried_are (closing entry.stop entry.event) close is.1 k))
    ∙ gets_both these (step_of hub entry).actions (closing entry.stop entry.event)
    ∙ ap (λ l. l ++ gets these (closing entry.stop entry.event)) (entry_gets these hub entry)

-- the end of a lost connection asks nothing
still : (hub : HubState) (at : Moment) (a b : Option ℕ) → (logged hub (ending at a ++ ending at b)).hub.issuing.kdc ≡ hub.issuing.kdc
still hub at (Some a) (Some b) = refl
still hub at (Some a) None = refl
still hub at None (Some b) = refl
still hub at None None = refl

round_kdc : (hub : HubState) (round : Round) → (logged hub (entries_of round)).hub.issuing.kdc ≡ after_round hub.issuing.kdc hub round
round_kdc hub PollFailed = refl
round_kdc hub (NothingCame at) = refl
round_kdc hub (Took entry acts close) = still (step_of hub entry).hub entry.at _ _ ∙ turned_kdc hub (Stepped entry)

pub records_its_own : RecordsItsOwn
unfolding AreRounds
records_its_own these start [] are = refl
records_its_own these start (round ∷ rounds) are =
    let later = (logged start (entries_of round)).hub in
    ap (gets these) (flat_map-append tried_by (did_in round) (flat_map did_in rounds))
    ∙ gets_both these (tried (did_in round)) (tried (flat_map did_in rounds))
    ∙ (λ k. round_gets these start round are.0 k
    ++ (records_its_own these later rounds are.1 ∙ ap (λ s. due_to_rounds these s later rounds) (round_kdc start round)) k)
