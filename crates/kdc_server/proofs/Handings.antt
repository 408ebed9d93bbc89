-- What a journal is handed over the life of a server is what its KDC remembers.
use Rattle.std.proofs.Common.{◌≡◌, ◌⊎◌, ℕ, zero, suc, Bool, true, false, List, [], ◌∷◌, ◌++◌, length, map, take, Option, Some, None, if◌then◌else◌, inl, inr, refl, sym, ap, ◌∙◌, append_assoc}
use Rattle.std.specs.Prelude.{nat_lt}
use Rattle.std.specs.FinMap as finmap
use Rattle.std.specs.List.{flat_map}
use Rattle.std.specs.Option.{option_or}
use Rattle.std.proofs.lemmas.Grind.{flat_map-append}
use Rattle.std.proofs.lemmas.List.{append-nil, map-append}
use Rattle.framing.specs.declared.fault.FrameFault.{FrameFault}
use Rattle.framing.specs.Splitting.{Splitting, fed, handed_out}
use Rattle.krb_fields.specs.declared.moment.Moment.{Moment}
use Rattle.replay.specs.declared.seen.Seen.{Seen}
use Rattle.kdc_core.specs.declared.run.Event.{Event as KdcEvent}
use Rattle.kdc_hub.specs.declared.event.Action.{Action}
use Rattle.kdc_hub.specs.declared.event.Action.TheVariants.{Close}
use Rattle.kdc_hub.specs.declared.event.CloseReason.TheVariants.{BadLength, NoRequest}
use Rattle.kdc_hub.specs.declared.event.Event.{Event}
use Rattle.kdc_hub.specs.declared.event.Event.TheVariants.{Datagram, Opened, Bytes, Closed}
use Rattle.kdc_hub.specs.declared.event.Peer.{Peer}
use Rattle.kdc_core.specs.declared.reply.Reply.{Reply}
use Rattle.kdc_hub.specs.declared.wires.WireCall.{WireCall}
use Rattle.kdc_hub.specs.declared.wires.WireCall.TheVariants.{Polled, Waited, Missed, Acted, Failed}
use Rattle.kdc_hub.specs.History.{Stepped, Turn, after_turn, after_turns, all_seen_by, asked, others_after, piece_requests, newly_seen_in, replies_by, reply_of_action, requests_by, seen_by, stream_requests, turn_sees}
use Rattle.kdc_hub.specs.Hub.{HubState, Step, brings, datagram_room, most_connections, opened, sent}
use Rattle.kdc_hub.specs.Issuing.{Issuing, after, reply_of, too_long}
use Rattle.kdc_hub.specs.Logged.{Entry, Stop, logged, step_by, step_of}
use Rattle.kdc_hub.specs.Rounds.{AreRounds, IsRound, NothingCame, PollFailed, Took, Tries, closing, did_in, ending, entries_of, lost_in}
use Rattle.kdc_hub.specs.StreamStep.{StreamStep, ending_step, messages_step, reply_then, stream_room}
use Rattle.kdc_hub.specs.Life.{ArePeriods, Period, replacement, rounds_in, tidying, turns_of}
use Rattle.kdc_hub.specs.declared.rows.Look.{Look}
use Rattle.kdc_hub.specs.declared.rows.Look.TheVariants.{Unchanged, Changed, Failed as LookFailed}
use Rattle.kdc_server.specs.Handing.{HandsAllInLife, HandsAllInRounds, all_seen}
use Rattle.kdc_files.specs.Journal.{Handed, handed_at, handed_by}
use Rattle.kdc_server.specs.Served.{handed_in}

-- ---- what actions name as remembered

abbrev seens : List Action → List Seen
seens [] = []
seens (action ∷ actions) = seen_by (reply_of_action action) ++ seens actions

abbrev no_events : List KdcEvent
no_events = []

-- of a step's actions, the replies to its requests are all that do
abbrev OnlyReplies : ℕ → List Action → Type 0
OnlyReplies n actions = seens actions ≡ all_seen_by (replies_by n actions)

module _ (at : Moment) (conn : ℕ) where
  close_none : (d : ℕ) → seens (take d (Close conn BadLength ∷ [])) ≡ []
  close_none zero = refl
  close_none (suc zero) = refl
  close_none (suc (suc d)) = refl

  ends_none : (i : Issuing) (fault : Option FrameFault) → seens (ending_step i at conn fault).actions ≡ []
  unfolding too_long
  ends_none i None = refl
  ends_none i (Some fault) = refl

  ends_some : (i : Issuing) (fault : Option FrameFault) (d : ℕ) → seens (take (suc d) (ending_step i at conn fault).actions) ≡ []
  unfolding too_long
  ends_some i None d = refl
  ends_some i (Some fault) d = close_none d

  closed_only : (d : ℕ) → OnlyReplies (suc (length (take d no_events))) (Close conn NoRequest ∷ take d [])
  unfolding replies_by
  closed_only zero = refl
  closed_only (suc d) = refl

  module _ (fault : Option FrameFault) where
    replied : (i j : Issuing) (message : List ℕ) (reply : Option Reply) (requests : List KdcEvent) (others : StreamStep)
        → OnlyReplies (length requests) others.actions
        → OnlyReplies (length (asked i at stream_room message ∷ others_after reply requests)) (reply_then conn reply j others).actions
    unfolding replies_by
    replied i j message (Some reply) requests others rest = ap (λ l. seen_by (Some reply) ++ l) rest
    replied i j message None requests others rest = refl

    messages_only : (i : Issuing) (messages : List (List ℕ))
        → OnlyReplies (length (stream_requests i at messages)) (messages_step i at conn fault messages).actions
    unfolding stream_requests messages_step replies_by
    messages_only i [] = ends_none i fault
    messages_only i (message ∷ messages) =
        let next = after i at stream_room message in
        replied i next message (reply_of i at stream_room message) (stream_requests next at messages) (messages_step next at conn fault messages) (messages_only next messages)

    -- the same of the first d actions
    some_replied : (d : ℕ) (i j : Issuing) (message : List ℕ) (reply : Option Reply) (requests : List KdcEvent) (others : StreamStep)
        → OnlyReplies (length (take d requests)) (take d others.actions)
        → OnlyReplies (length (take (suc d) (asked i at stream_room message ∷ others_after reply requests))) (take (suc d) (reply_then conn reply j others).actions)
    unfolding replies_by
    some_replied d i j message (Some reply) requests others rest = ap (λ l. seen_by (Some reply) ++ l) rest
    some_replied d i j message None requests others rest = closed_only d

    some_only : (d : ℕ) (i : Issuing) (messages : List (List ℕ))
        → OnlyReplies (length (take d (stream_requests i at messages))) (take d (messages_step i at conn fault messages).actions)
    unfolding stream_requests messages_step replies_by
    some_only zero i messages = refl
    some_only (suc d) i [] = ends_some i fault d
    some_only (suc d) i (message ∷ messages) =
        let next = after i at stream_room message in
        some_replied d i next message (reply_of i at stream_room message) (stream_requests next at messages) (messages_step next at conn fault messages) (some_only d next messages)

sent_only : (peer : Peer) (reply : Option Reply) → OnlyReplies 1 (sent peer reply)
unfolding replies_by
sent_only peer (Some reply) = refl
sent_only peer None = refl

either_none : (a b : Bool) (x y z : Step) → seens x.actions ≡ [] → seens y.actions ≡ [] → seens z.actions ≡ []
    → seens (if a then x else if b then y else z).actions ≡ []
either_none true b x y z first second third = first
either_none false true x y z first second third = second
either_none false false x y z first second third = third

opened_none : (hub : HubState) (conn : ℕ) → seens (opened hub conn).actions ≡ []
opened_none hub conn =
    either_none (finmap.contains_key hub.connections conn) (nat_lt (finmap.len hub.connections) most_connections) _ _ _ refl refl refl

none_taken : (d : ℕ) → OnlyReplies (length (take d no_events)) (take d [])
unfolding replies_by
none_taken zero = refl
none_taken (suc d) = refl

module _ (hub : HubState) (at : Moment) where
  piece_only : (conn : ℕ) (piece : List ℕ) (o : Option Splitting)
      → OnlyReplies (length (piece_requests hub.issuing at piece o)) (brings hub at conn piece o).actions
  unfolding replies_by
  piece_only conn piece (Some s) = messages_only at conn (handed_out (fed s piece)).fault hub.issuing (handed_out (fed s piece)).messages
  piece_only conn piece None = refl

  piece_some : (d conn : ℕ) (piece : List ℕ) (o : Option Splitting)
      → OnlyReplies (length (take d (piece_requests hub.issuing at piece o))) (take d (brings hub at conn piece o).actions)
  piece_some d conn piece (Some s) = some_only at conn (handed_out (fed s piece)).fault d hub.issuing (handed_out (fed s piece)).messages
  piece_some d conn piece None = none_taken d

  step_only : (stop : Option Stop) (event : Event)
      → OnlyReplies (length (requests_by stop hub at event)) (step_by stop hub at event).actions
  unfolding replies_by
  step_only None (Datagram peer request) = sent_only peer (reply_of hub.issuing at datagram_room request)
  step_only None (Opened conn) = opened_none hub conn
  step_only None (Bytes conn piece) = piece_only conn piece (finmap.get hub.connections conn)
  step_only None (Closed conn) = refl
  step_only (Some stop) (Datagram peer request) = refl
  step_only (Some stop) (Opened conn) = refl
  step_only (Some stop) (Bytes conn piece) = piece_some stop.done conn piece (finmap.get hub.connections conn)
  step_only (Some stop) (Closed conn) = refl

-- ---- what is handed over for actions that are tried

seen_at : (at : Moment) (all : List Seen) → all_seen (handed_at at all) ≡ all
seen_at at [] = refl
seen_at at (seen ∷ all) = ap (λ l. seen ∷ l) (seen_at at all)

module _ (at : Moment) (rest : List WireCall) where
  one_handed : (action : Action) (actions : List Action) (others : List WireCall)
      → handed_in at (others ++ rest) ≡ handed_at at (seens actions) ++ handed_in at rest
      → handed_by at action ++ handed_in at (others ++ rest)
      ≡ handed_at at (seens (action ∷ actions)) ++ handed_in at rest
  one_handed action actions others is =
      ap (λ l. handed_by at action ++ l) is
      ∙ sym (append_assoc (handed_by at action) (handed_at at (seens actions)) (handed_in at rest))
      ∙ ap (λ l. l ++ handed_in at rest) (sym (map-append _ (seen_by (reply_of_action action)) (seens actions)))

  tried : (action : Action) (did others : List WireCall) → (did ≡ Acted action ∷ others) ⊎ (did ≡ Failed action ∷ others)
      → handed_in at (did ++ rest) ≡ handed_by at action ++ handed_in at (others ++ rest)
  tried action did others (inl is) = ap (λ d. handed_in at (d ++ rest)) is
  tried action did others (inr is) = ap (λ d. handed_in at (d ++ rest)) is

  acts_handed : (actions : List Action) (did : List WireCall) → Tries actions did
      → handed_in at (did ++ rest) ≡ handed_at at (seens actions) ++ handed_in at rest
  unfolding Tries
  acts_handed [] did is = ap (λ d. handed_in at (d ++ rest)) is
  acts_handed (action ∷ actions) did (others, how, tries) =
      tried action did others how ∙ one_handed action actions others (acts_handed actions others tries)

-- ---- rounds

closing_none : (stop : Option Stop) (event : Event) → seens (closing stop event) ≡ []
closing_none None event = refl
closing_none (Some stop) (Datagram peer request) = refl
closing_none (Some stop) (Opened conn) = refl
closing_none (Some stop) (Bytes conn piece) = refl
closing_none (Some stop) (Closed conn) = refl

logged_on : (hub : HubState) (entries more : List Entry) → (logged hub (entries ++ more)).hub ≡ (logged (logged hub entries).hub more).hub
logged_on hub [] more = refl
logged_on hub (entry ∷ entries) more = logged_on (step_of hub entry).hub entries more

-- the ends of connections that were lost bring no requests
ends_see : (hub : HubState) (at : Moment) (one two : Option ℕ) (entries : List Entry)
    → newly_seen_in hub (map Stepped ((ending at one ++ ending at two) ++ entries))
    ≡ newly_seen_in (logged hub (ending at one ++ ending at two)).hub (map Stepped entries)
unfolding replies_by
ends_see hub at None None entries = refl
ends_see hub at None (Some conn) entries = refl
ends_see hub at (Some conn) None entries = refl
ends_see hub at (Some conn) (Some other) entries = refl

all_seen_on : (xs ys : List Handed) → all_seen (xs ++ ys) ≡ all_seen xs ++ all_seen ys
all_seen_on xs ys = map-append _ xs ys

module _ (hub : HubState) (entry : Entry) (acts close : List WireCall) (tries : IsRound hub (Took entry acts close)) (did : List WireCall) (entries : List Entry) where
  abbrev actions : List Action
  actions = (step_of hub entry).actions

  took_handed : handed_in entry.at ((acts ++ close) ++ did) ≡ handed_at entry.at (seens actions) ++ handed_in entry.at did
  took_handed =
      ap (handed_in entry.at) (append_assoc acts close did)
      ∙ acts_handed entry.at (close ++ did) actions acts tries.0
      ∙ ap (λ l. handed_at entry.at (seens actions) ++ l)
      (acts_handed entry.at did (closing entry.stop entry.event) close tries.1
      ∙ ap (λ s. handed_at entry.at s ++ handed_in entry.at did) (closing_none entry.stop entry.event))

  took : all_seen (handed_in entry.at did) ≡ newly_seen_in (logged hub (entries_of (Took entry acts close))).hub (map Stepped entries)
      → all_seen (handed_in entry.at ((acts ++ close) ++ did))
      ≡ newly_seen_in hub (map Stepped (entries_of (Took entry acts close) ++ entries))
  took rest =
      ap all_seen took_handed
      ∙ all_seen_on (handed_at entry.at (seens actions)) (handed_in entry.at did)
      ∙ ap (λ l. l ++ all_seen (handed_in entry.at did)) (seen_at entry.at (seens actions) ∙ step_only hub entry.at entry.stop entry.event)
      ∙ ap (λ l. turn_sees hub (Stepped entry) ++ l)
      (rest ∙ sym (ends_see (step_of hub entry).hub entry.at (lost_in acts) (lost_in close) entries))

pub in_rounds : HandsAllInRounds
unfolding AreRounds
in_rounds hub [] at a = refl
in_rounds hub (PollFailed ∷ rounds) at a = in_rounds hub rounds at a.1
in_rounds hub (NothingCame now ∷ rounds) at a = in_rounds hub rounds at a.1
in_rounds hub (Took entry acts close ∷ rounds) at a =
    took hub entry acts close a.0 (flat_map did_in rounds) (flat_map entries_of rounds)
    (in_rounds (logged hub (entries_of (Took entry acts close))).hub rounds entry.at a.1)

-- ---- periods

-- what is handed over by what was done afterwards begins at some moment
pub record GoesOn (at : Moment) (done did : List WireCall) : Type 0 where
  pub later : Moment
  pub is : handed_in at (done ++ did) ≡ handed_in at done ++ handed_in later did

module _ (did : List WireCall) where
  act_goes_on : (at : Moment) (action : Action) (done : List WireCall) → (r : GoesOn at done did)
      → handed_by at action ++ handed_in at (done ++ did) ≡ (handed_by at action ++ handed_in at done) ++ handed_in r.later did
  act_goes_on at action done r =
      ap (λ l. handed_by at action ++ l) r.is ∙ sym (append_assoc (handed_by at action) (handed_in at done) (handed_in r.later did))

  handed_on : (at : Moment) (done : List WireCall) → GoesOn at done did
  handed_on at [] = record { later = at; is = refl }
  handed_on at (Polled came event ∷ done) = let r = handed_on came done in record { later = r.later; is = r.is }
  handed_on at (Waited now ∷ done) = let r = handed_on at done in record { later = r.later; is = r.is }
  handed_on at (Missed ∷ done) = let r = handed_on at done in record { later = r.later; is = r.is }
  handed_on at (Acted action ∷ done) = let r = handed_on at done in record { later = r.later; is = act_goes_on at action done r }
  handed_on at (Failed action ∷ done) = let r = handed_on at done in record { later = r.later; is = act_goes_on at action done r }

newly_seen_on : (hub : HubState) (turns more : List Turn)
    → newly_seen_in hub (turns ++ more) ≡ newly_seen_in hub turns ++ newly_seen_in (after_turns hub turns) more
newly_seen_on hub [] more = refl
newly_seen_on hub (turn ∷ turns) more =
    ap (λ l. turn_sees hub turn ++ l) (newly_seen_on (after_turn hub turn) turns more)
    ∙ sym (append_assoc (turn_sees hub turn) (newly_seen_in (after_turn hub turn) turns) (newly_seen_in (after_turns hub (turn ∷ turns)) more))

replaced_none : (hub : HubState) (look : Look) (more : List Turn)
    → newly_seen_in hub (replacement look ++ more) ≡ newly_seen_in (after_turns hub (replacement look)) more
replaced_none hub Unchanged more = refl
replaced_none hub (Changed database) more = refl
replaced_none hub LookFailed more = refl

tidied_none : (hub : HubState) (tidied : Option Moment) → newly_seen_in hub (tidying tidied) ≡ []
tidied_none hub None = refl
tidied_none hub (Some at) = refl

period_sees : (hub : HubState) (period : Period)
    → newly_seen_in hub (turns_of period)
    ≡ newly_seen_in (after_turns hub (replacement period.look)) (map Stepped (flat_map entries_of period.rounds))
period_sees hub period =
    let start = after_turns hub (replacement period.look) in
    let steps = map Stepped (flat_map entries_of period.rounds) in
    replaced_none hub period.look (steps ++ tidying period.tidied)
    ∙ newly_seen_on start steps (tidying period.tidied)
    ∙ ap (λ l. newly_seen_in start steps ++ l) (tidied_none (after_turns start steps) period.tidied)
    ∙ append-nil (newly_seen_in start steps)

pub in_life : HandsAllInLife
unfolding ArePeriods
in_life tidied hub [] at a = refl
in_life tidied hub (period ∷ periods) at (rounds, due, rest) =
    let first = flat_map did_in period.rounds in
    let others = flat_map did_in (rounds_in periods) in
    let on = handed_on others at first in
    ap (λ d. all_seen (handed_in at d)) (flat_map-append did_in period.rounds (rounds_in periods))
    ∙ ap all_seen on.is
    ∙ all_seen_on (handed_in at first) (handed_in on.later others)
    ∙ ap (λ l. l ++ all_seen (handed_in on.later others))
    (in_rounds (after_turns hub (replacement period.look)) period.rounds at rounds ∙ sym (period_sees hub period))
    ∙ ap (λ l. newly_seen_in hub (turns_of period) ++ l)
    (in_life (option_or period.tidied tidied) (after_turns hub (turns_of period)) periods on.later rest)
    ∙ sym (newly_seen_on hub (turns_of period) (flat_map turns_of periods))
