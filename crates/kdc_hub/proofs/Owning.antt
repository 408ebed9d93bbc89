-- The requests on a connection are the messages of its own bytes.
use Rattle.std.proofs.Common.{◌≡◌, ◌≢◌, ℕ, zero, suc, Bool, true, false, cond, List, [], ◌∷◌, ◌++◌, drop, take, Option, Some, None, if◌then◌else◌, refl, sym, ap, subst, ◌∙◌, append_assoc}
use Rattle.std.specs.Prelude.{◌==◌, nat_lt, IsTrue}
use Rattle.std.specs.Ordering.{nat_cmp, eq_by_cmp}
use Rattle.std.specs.Cmp.{nat_cmp_total, Equal-is}
use Rattle.std.specs.FinMap.{FinMap, get-insert, get-remove, nat_cmp-IsAntisymmetric}
use Rattle.std.specs.FinMap as map
use Rattle.std.specs.List.{AllByRecursion, flat_map}
use Rattle.std.specs.Option.{is_some}
use Rattle.std.proofs.lemmas.Bool.{eqb-true, eqb-false, eq-eqb}
use Rattle.std.proofs.lemmas.List.{append-nil}
use Rattle.std.proofs.lemmas.Grind.{flat_map-append}
use Rattle.framing.specs.declared.fault.FrameFault.{FrameFault}
use Rattle.framing.specs.Messages.{messages}
use Rattle.framing.specs.Pieces.{IsSameInTwo}
use Rattle.framing.specs.Splitting.{Splitting, fed, handed_out, left, started}
use Rattle.krb_fields.specs.declared.moment.Moment.{Moment}
use Rattle.kdc_core.specs.declared.run.Event.{Event as KdcEvent}
use Rattle.kdc_hub.specs.declared.event.Event.{Event}
use Rattle.kdc_hub.specs.declared.event.Event.TheVariants.{Datagram, Opened, Bytes, Closed}
use Rattle.kdc_hub.specs.declared.event.Peer.{Peer}
use Rattle.kdc_hub.specs.declared.event.Action.TheVariants.{Close}
use Rattle.kdc_hub.specs.declared.event.CloseReason.TheVariants.{Full}
use Rattle.kdc_core.specs.declared.reply.Reply.{Reply}
use Rattle.kdc_hub.specs.Issuing.{Issuing, after, reply_of}
use Rattle.kdc_hub.specs.StreamStep.{StreamStep, messages_step, reply_then, stream_room, stream_step}
use Rattle.kdc_hub.specs.Hub.{HubState, Step, brings, greatest_request, hub_step, with_stream, most_connections, nothing}
use Rattle.kdc_hub.specs.Logged.{Entry, Stop, logged, step_by, step_of}
use Rattle.kdc_hub.specs.History.{IsPrefix, asked, others_after, piece_requests, requests_by, requests_of, stream_requests}
use Rattle.kdc_hub.specs.OwnBytes.{AsksItsOwn, IsNoOpening, asked_by, brought_on, bytes_on, is_on, requests_on}
use Rattle.kdc_hub.proofs.Tables.{is_gone, is_there}

-- ---- a list at the beginning of another

none_begins : {X : Type 0} (whole : List X) → IsPrefix [] whole
none_begins whole = record { others = whole; is = refl }

begins_before : {X : Type 0} (front whole more : List X) → IsPrefix front whole → IsPrefix front (whole ++ more)
begins_before front whole more b = record { others = b.others ++ more; is = ap (λ l. l ++ more) b.is ∙ append_assoc front b.others more }

begins_after : {X : Type 0} (first front whole : List X) → IsPrefix front whole → IsPrefix (first ++ front) (first ++ whole)
begins_after first front whole b = record { others = b.others; is = ap (λ l. first ++ l) b.is ∙ sym (append_assoc first front b.others) }

begins_on : {X : Type 0} (first second whole : List X) → IsPrefix first second → IsPrefix second whole → IsPrefix first whole
begins_on first second whole a b =
    record { others = a.others ++ b.others; is = b.is ∙ ap (λ l. l ++ b.others) a.is ∙ append_assoc first a.others b.others }

-- what is added to a list that stays as it is
nothing_added : {X : Type 0} (xs ys : List X) → xs ≡ xs ++ ys → ys ≡ []
nothing_added [] ys e = sym e
nothing_added (x ∷ xs) ys e = nothing_added xs ys (ap (drop 1) e)

-- ---- the requests of a stream

asked_all : (events others : List KdcEvent) → flat_map asked_by (events ++ others) ≡ flat_map asked_by events ++ flat_map asked_by others
asked_all events others = flat_map-append asked_by events others

asked_some : (n : ℕ) (events : List KdcEvent) → IsPrefix (flat_map asked_by (take n events)) (flat_map asked_by events)
asked_some zero events = none_begins _
asked_some (suc n) [] = none_begins _
asked_some (suc n) (event ∷ events) = begins_after (asked_by event) _ _ (asked_some n events)

module _ (at : Moment) (conn : ℕ) (fault : Option FrameFault) where
  record AreAsked (requests : List KdcEvent) (ms : List (List ℕ)) (stays : Bool) : Type 0 where
    pub begins : IsPrefix (flat_map asked_by requests) ms
    pub all : stays ≡ true → flat_map asked_by requests ≡ ms

  one_asked : (i j : Issuing) (m : List ℕ) (reply : Option Reply) (requests : List KdcEvent) (ms : List (List ℕ)) (others : StreamStep) → AreAsked requests ms others.stays
      → AreAsked (asked i at stream_room m ∷ others_after reply requests) (m ∷ ms) (reply_then conn reply j others).stays
  one_asked i j m (Some reply) requests ms others rest = record {
    begins = begins_after (m ∷ []) _ _ rest.begins;
    all = λ stays. ap (λ l. m ∷ l) (rest.all stays);
  }
  one_asked i j m None requests ms others rest = record {
    begins = record { others = ms; is = refl };
    all = λ stays. absurd cc;
  }

  stream_asked : (i : Issuing) (ms : List (List ℕ)) → AreAsked (stream_requests i at ms) ms (messages_step i at conn fault ms).stays
  unfolding stream_requests messages_step
  stream_asked i [] = record { begins = none_begins []; all = λ stays. refl }
  stream_asked i (m ∷ ms) =
      one_asked i (after i at stream_room m) m (reply_of i at stream_room m) (stream_requests (after i at stream_room m) at ms) ms (messages_step (after i at stream_room m) at conn fault ms)
      (stream_asked (after i at stream_room m) ms)

-- ---- the connection in the table

module _ (conn : ℕ) where
  abbrev here : HubState → Option Splitting
  here h = map.get h.connections conn

  is_other : (c : ℕ) → c ≢ conn → eq_by_cmp nat_cmp conn c ≡ false
  is_other c other = by_test (eq_by_cmp nat_cmp conn c) refl
    where
      by_test : (b : Bool) → eq_by_cmp nat_cmp conn c ≡ b → b ≡ false
      by_test true e = absurd (other (sym (nat_cmp-IsAntisymmetric conn c ((Equal-is (nat_cmp conn c)).0 e))))
      by_test false e = refl

  insert_other : (m : FinMap nat_cmp Splitting) (c : ℕ) (s : Splitting) → c ≢ conn → map.get (map.insert m c s) conn ≡ map.get m conn
  insert_other m c s other = get-insert nat_cmp_total m c s conn ∙ ap (λ b. cond b (Some s) (map.get m conn)) (is_other c other)

  remove_other : (m : FinMap nat_cmp Splitting) (c : ℕ) → c ≢ conn → map.get (map.remove m c) conn ≡ map.get m conn
  remove_other m c other = get-remove nat_cmp_total m c conn ∙ ap (λ b. cond b None (map.get m conn)) (is_other c other)

  none_removed : (m : FinMap nat_cmp Splitting) (c : ℕ) → map.get m conn ≡ None → map.get (map.remove m c) conn ≡ None
  none_removed m c none = get-remove nat_cmp_total m c conn ∙ by_test (eq_by_cmp nat_cmp conn c)
    where
      by_test : (b : Bool) → cond b None (map.get m conn) ≡ None
      by_test true = refl
      by_test false = none

  module _ (hub : HubState) (at : Moment) where
    opening_other : (c : ℕ) (there place : Bool) → c ≢ conn
        → here (if there then nothing hub else if place then record { actions = []; hub = record hub { connections = map.insert hub.connections c (started greatest_request) } } else (let s : Step = record { actions = Close c Full ∷ []; hub = hub } in s)).hub ≡ here hub
    opening_other c true place other = refl
    opening_other c false true other = insert_other hub.connections c (started greatest_request) other
    opening_other c false false other = refl

    with_stream_other : (stays : Bool) (c : ℕ) (s : Splitting) (i : Issuing) → c ≢ conn → here (with_stream stays hub c s i) ≡ here hub
    with_stream_other true c s i other = insert_other hub.connections c s other
    with_stream_other false c s i other = remove_other hub.connections c other

    piece_other : (c : ℕ) (piece : List ℕ) (o : Option Splitting) → c ≢ conn → here (brings hub at c piece o).hub ≡ here hub
    piece_other c piece (Some s) other = with_stream_other (stream_step hub.issuing at c (fed s piece)).stays c _ _ other
    piece_other c piece None other = refl

    -- a step elsewhere
    opening_unmoved : (stop : Option Stop) (c : ℕ) → c ≢ conn → here (step_by stop hub at (Opened c)).hub ≡ here hub
    opening_unmoved None c other = opening_other c (map.contains_key hub.connections c) (nat_lt (map.len hub.connections) most_connections) other
    opening_unmoved (Some stop) c other = refl

    piece_unmoved : (stop : Option Stop) (c : ℕ) (piece : List ℕ) → c ≢ conn → here (step_by stop hub at (Bytes c piece)).hub ≡ here hub
    piece_unmoved None c piece other = piece_other c piece (map.get hub.connections c) other
    piece_unmoved (Some stop) c piece other = remove_other hub.connections c other

    datagram_unmoved : (stop : Option Stop) (peer : Peer) (request : List ℕ) → here (step_by stop hub at (Datagram peer request)).hub ≡ here hub
    datagram_unmoved None peer request = refl
    datagram_unmoved (Some stop) peer request = refl

    closing : (stop : Option Stop) (c : ℕ) → (step_by stop hub at (Closed c)).hub.connections ≡ map.remove hub.connections c
    closing None c = refl
    closing (Some stop) c = refl

    -- pieces of a connection that isn't open
    none_brought : (c : ℕ) (piece : List ℕ) (o : Option Splitting) → o ≡ None → here hub ≡ None → here (brings hub at c piece o).hub ≡ None
    none_brought c piece (Some s) e none = absurd cc
    none_brought c piece None e none = none

    piece_gone : (stop : Option Stop) (piece : List ℕ) → here hub ≡ None → here (step_by stop hub at (Bytes conn piece)).hub ≡ None
    piece_gone None piece none = none_brought conn piece (map.get hub.connections conn) none none
    piece_gone (Some stop) piece none = none_removed hub.connections conn none

    none_asked : (piece : List ℕ) (o : Option Splitting) → o ≡ None → piece_requests hub.issuing at piece o ≡ []
    none_asked piece (Some s) e = absurd cc
    none_asked piece None e = refl

    none_taken : (n : ℕ) → take n (let l : List KdcEvent = [] in l) ≡ []
    none_taken zero = refl
    none_taken (suc n) = refl

    piece_asks_nothing : (stop : Option Stop) (piece : List ℕ) → here hub ≡ None → requests_by stop hub at (Bytes conn piece) ≡ []
    piece_asks_nothing None piece none = none_asked piece (map.get hub.connections conn) none
    piece_asks_nothing (Some stop) piece none = ap (take stop.done) (none_asked piece (map.get hub.connections conn) none) ∙ none_taken stop.done

  -- ---- a connection that isn't open

  abbrev own_requests : HubState → Entry → List (List ℕ)
  own_requests hub entry = if is_on conn entry.event then flat_map asked_by (requests_of hub entry) else []

  record StaysGone (hub : HubState) (entry : Entry) : Type 0 where
    pub asks : own_requests hub entry ≡ []
    pub gone : here (step_of hub entry).hub ≡ None

  gone_piece : (hub : HubState) (at : Moment) (stop : Option Stop) (c : ℕ) (piece : List ℕ) → here hub ≡ None
      → StaysGone hub (record { at = at; event = Bytes c piece; stop = stop })
  gone_piece hub at stop c piece none = by_test (c == conn) refl
    where
      own : StaysGone hub (record { at = at; event = Bytes conn piece; stop = stop })
      own = record {
        asks = ap (λ b. if b then flat_map asked_by (requests_by stop hub at (Bytes conn piece)) else []) (eq-eqb conn conn refl)
            ∙ ap (flat_map asked_by) (piece_asks_nothing hub at stop piece none);
        gone = piece_gone hub at stop piece none;
      }

      by_test : (b : Bool) → (c == conn) ≡ b → StaysGone hub (record { at = at; event = Bytes c piece; stop = stop })
      by_test true e = subst (λ d. StaysGone hub (record { at = at; event = Bytes d piece; stop = stop })) (sym (eqb-true c conn e)) own
      by_test false e = record {
        asks = ap (λ b. if b then flat_map asked_by (requests_by stop hub at (Bytes c piece)) else []) e;
        gone = piece_unmoved hub at stop c piece (eqb-false c conn e) ∙ none;
      }

  gone_step : (hub : HubState) (at : Moment) (stop : Option Stop) (event : Event) → here hub ≡ None → IsNoOpening conn event
      → StaysGone hub (record { at = at; event = event; stop = stop })
  gone_step hub at stop (Datagram peer request) none o = record { asks = refl; gone = datagram_unmoved hub at stop peer request ∙ none }
  gone_step hub at stop (Opened c) none o = record { asks = refl; gone = opening_unmoved hub at stop c o ∙ none }
  gone_step hub at stop (Bytes c piece) none o = gone_piece hub at stop c piece none
  gone_step hub at stop (Closed c) none o = record {
    asks = refl;
    gone = ap (λ m. map.get m conn) (closing hub at stop c) ∙ none_removed hub.connections c none;
  }

  abbrev NoOpenings : List Entry → Type 0
  NoOpenings = AllByRecursion (λ entry. IsNoOpening conn entry.event)

  record IsGone (hub : HubState) (entries : List Entry) : Type 0 where
    pub asks : requests_on conn hub entries ≡ []
    pub gone : here (logged hub entries).hub ≡ None

  gone : (hub : HubState) (entries : List Entry) → here hub ≡ None → NoOpenings entries → IsGone hub entries
  gone hub [] none a = record { asks = refl; gone = none }
  gone hub (entry ∷ entries) none a =
      let first = gone_step hub entry.at entry.stop entry.event none a.0 in
      let rest = gone (step_of hub entry).hub entries first.gone a.1 in
      record { asks = λ k. first.asks k ++ rest.asks k; gone = rest.gone }

  -- ---- an open one

  -- no message is whole
  abbrev IsClean : Splitting → Type 0
  IsClean s = (handed_out (fed s [])).messages ≡ []

  record IsCut (s : Splitting) (hub : HubState) (entries : List Entry) : Type 0 where
    pub begins : IsPrefix (requests_on conn hub entries) (handed_out (fed s (bytes_on conn entries))).messages
    pub all : IsTrue (is_some (here (logged hub entries).hub)) → requests_on conn hub entries ≡ (handed_out (fed s (bytes_on conn entries))).messages

  -- an entry elsewhere
  passing : (s : Splitting) (hub : HubState) (entry : Entry) (entries : List Entry) → own_requests hub entry ≡ [] → brought_on conn entry.event ≡ []
      → IsCut s (step_of hub entry).hub entries → IsCut s hub (entry ∷ entries)
  passing s hub entry entries asks brings rest =
      let p : requests_on conn hub (entry ∷ entries) ≡ requests_on conn (step_of hub entry).hub entries = ap (λ l. l ++ requests_on conn (step_of hub entry).hub entries) asks in
      let q : bytes_on conn (entry ∷ entries) ≡ bytes_on conn entries = ap (λ l. l ++ bytes_on conn entries) brings in
      record {
        begins = subst (λ (w : List (List ℕ) × List ℕ). IsPrefix w.0 (handed_out (fed s w.1)).messages) (λ k. (sym p k, sym q k)) rest.begins;
        all = λ stays_open. p ∙ rest.all stays_open ∙ ap (λ b. (handed_out (fed s b)).messages) (sym q);
      }

  module _ (law : (s : Splitting) (first second : List ℕ) → IsSameInTwo s first second) where
    -- an entry after which it is closed
    ending : (s : Splitting) (hub : HubState) (entry : Entry) (entries : List Entry)
        → IsPrefix (own_requests hub entry) (handed_out (fed s (brought_on conn entry.event))).messages → IsGone (step_of hub entry).hub entries → IsCut s hub (entry ∷ entries)
    ending s hub entry entries own rest =
        let asks : requests_on conn hub (entry ∷ entries) ≡ own_requests hub entry = ap (λ l. own_requests hub entry ++ l) rest.asks ∙ append-nil (own_requests hub entry) in
        let two = law s (brought_on conn entry.event) (bytes_on conn entries) in
        record {
          begins = subst (λ l. IsPrefix l (handed_out (fed s (bytes_on conn (entry ∷ entries)))).messages) (sym asks)
              (subst (λ l. IsPrefix (own_requests hub entry) l) (sym two.same_messages) (begins_before (own_requests hub entry) _ _ own));
          all = λ stays_open. absurd (let e = rest.gone in let f : true ≡ is_some (here (logged hub (entry ∷ entries)).hub) = sym stays_open in (let g : true ≡ false = f ∙ ap is_some e in cc));
        }

    -- an entry after which it stays open
    staying : (s : Splitting) (hub : HubState) (entry : Entry) (entries : List Entry)
        → own_requests hub entry ≡ (handed_out (fed s (brought_on conn entry.event))).messages
        → IsCut (left (fed s (brought_on conn entry.event))) (step_of hub entry).hub entries → IsCut s hub (entry ∷ entries)
    staying s hub entry entries own rest =
        let two = law s (brought_on conn entry.event) (bytes_on conn entries) in
        let first = (handed_out (fed s (brought_on conn entry.event))).messages in
        record {
          begins = subst (λ (w : List (List ℕ) × List (List ℕ)). IsPrefix w.0 w.1) (λ k. (sym own k ++ requests_on conn (step_of hub entry).hub entries, sym two.same_messages k))
              (begins_after first _ _ rest.begins);
          all = λ stays_open. (λ k. own k ++ rest.all stays_open k) ∙ sym two.same_messages;
        }

    left_clean : (s : Splitting) (piece : List ℕ) → IsClean (left (fed s piece))
    left_clean s piece =
        nothing_added (handed_out (fed s piece)).messages _
        (ap (λ p. (handed_out (fed s p)).messages) (sym (append-nil piece)) ∙ (law s piece []).same_messages)

    module _ (hub : HubState) (at : Moment) (entries : List Entry) (s : Splitting) (piece : List ℕ)
        (rest : (h : HubState) (t : Splitting) → here h ≡ Some t → IsClean t → IsCut t h entries) (ends : (h : HubState) → here h ≡ None → IsGone h entries) where
      abbrev piece_entry : Option Stop → ℕ → Entry
      piece_entry stop c = record { at = at; event = Bytes c piece; stop = stop }

      r : StreamStep
      r = stream_step hub.issuing at conn (fed s piece)

      is_own : (stop : Option Stop) → own_requests hub (piece_entry stop conn) ≡ flat_map asked_by (requests_by stop hub at (Bytes conn piece))
      is_own stop = ap (λ b. if b then flat_map asked_by (requests_by stop hub at (Bytes conn piece)) else []) (eq-eqb conn conn refl)

      is_brought : brought_on conn (Bytes conn piece) ≡ piece
      is_brought = ap (λ b. if b then piece else []) (eq-eqb conn conn refl)

      asks : AreAsked at conn (handed_out (fed s piece)).fault (stream_requests hub.issuing at (handed_out (fed s piece)).messages) (handed_out (fed s piece)).messages r.stays
      unfolding r
      asks = stream_asked at conn (handed_out (fed s piece)).fault hub.issuing (handed_out (fed s piece)).messages

      module _ (there : here hub ≡ Some s) where
        asked_are : requests_by None hub at (Bytes conn piece) ≡ stream_requests hub.issuing at (handed_out (fed s piece)).messages
        asked_are = ap (piece_requests hub.issuing at piece) there

        step_is : (hub_step hub at (Bytes conn piece)).hub ≡ with_stream r.stays hub conn (left (fed s piece)) r.issuing
        unfolding r
        step_is = ap (λ o. (brings hub at conn piece o).hub) there

        own_begins : (stop : Option Stop) → IsPrefix (own_requests hub (piece_entry stop conn)) (handed_out (fed s (brought_on conn (Bytes conn piece)))).messages
        own_begins stop =
            subst (λ (w : List (List ℕ) × List ℕ). IsPrefix w.0 (handed_out (fed s w.1)).messages) (λ k. (sym (is_own stop) k, sym is_brought k)) (by_stop stop)
          where
            whole : IsPrefix (flat_map asked_by (requests_by None hub at (Bytes conn piece))) (handed_out (fed s piece)).messages
            whole = subst (λ l. IsPrefix (flat_map asked_by l) (handed_out (fed s piece)).messages) (sym asked_are) asks.begins

            by_stop : (stop : Option Stop) → IsPrefix (flat_map asked_by (requests_by stop hub at (Bytes conn piece))) (handed_out (fed s piece)).messages
            by_stop None = whole
            by_stop (Some stop) = begins_on _ _ _ (asked_some stop.done (requests_by None hub at (Bytes conn piece))) whole

        by_stays : (b : Bool) → r.stays ≡ b → IsCut s hub (piece_entry None conn ∷ entries)
        by_stays true stays =
            let after : (hub_step hub at (Bytes conn piece)).hub ≡ with_stream true hub conn (left (fed s piece)) r.issuing = step_is ∙ ap (λ b. with_stream b hub conn (left (fed s piece)) r.issuing) stays in
            let found : here (hub_step hub at (Bytes conn piece)).hub ≡ Some (left (fed s piece)) = ap here after ∙ is_there hub.connections conn (left (fed s piece)) in
            staying s hub (piece_entry None conn) entries
            (is_own None ∙ ap (flat_map asked_by) asked_are ∙ asks.all stays ∙ ap (λ p. (handed_out (fed s p)).messages) (sym is_brought))
            (subst (λ p. IsCut (left (fed s p)) (hub_step hub at (Bytes conn piece)).hub entries) (sym is_brought) (rest _ _ found (left_clean s piece)))
        by_stays false stays =
            let after : (hub_step hub at (Bytes conn piece)).hub ≡ with_stream false hub conn (left (fed s piece)) r.issuing = step_is ∙ ap (λ b. with_stream b hub conn (left (fed s piece)) r.issuing) stays in
            ending s hub (piece_entry None conn) entries (own_begins None) (ends _ (ap here after ∙ is_gone hub.connections conn))

        own_piece : (stop : Option Stop) → IsCut s hub (piece_entry stop conn ∷ entries)
        own_piece None = by_stays r.stays refl
        own_piece (Some stop) = ending s hub (piece_entry (Some stop) conn) entries (own_begins (Some stop)) (ends _ (is_gone hub.connections conn))

        any_piece : IsClean s → (stop : Option Stop) (c : ℕ) → IsCut s hub (piece_entry stop c ∷ entries)
        any_piece clean stop c = by_test (c == conn) refl
          where
            by_test : (b : Bool) → (c == conn) ≡ b → IsCut s hub (piece_entry stop c ∷ entries)
            by_test true e = subst (λ d. IsCut s hub (piece_entry stop d ∷ entries)) (sym (eqb-true c conn e)) (own_piece stop)
            by_test false e = passing s hub (piece_entry stop c) entries
                (ap (λ b. if b then flat_map asked_by (requests_by stop hub at (Bytes c piece)) else []) e)
                (ap (λ b. if b then piece else []) e)
                (rest _ _ (piece_unmoved hub at stop c piece (eqb-false c conn e) ∙ there) clean)

    closed : (s : Splitting) (hub : HubState) (at : Moment) (stop : Option Stop) (c : ℕ) (entries : List Entry) → here hub ≡ Some s → IsClean s
        → ((h : HubState) (t : Splitting) → here h ≡ Some t → IsClean t → IsCut t h entries) → ((h : HubState) → here h ≡ None → IsGone h entries)
        → IsCut s hub ((let e : Entry = record { at = at; event = Closed c; stop = stop } in e) ∷ entries)
    closed s hub at stop c entries there clean rest ends = by_test (c == conn) refl
      where
        by_test : (b : Bool) → (c == conn) ≡ b → IsCut s hub ((let e : Entry = record { at = at; event = Closed c; stop = stop } in e) ∷ entries)
        by_test true e =
            ending s hub (record { at = at; event = Closed c; stop = stop }) entries (none_begins _)
            (ends _ (ap (λ m. map.get m conn) (closing hub at stop c ∙ ap (map.remove hub.connections) (eqb-true c conn e)) ∙ is_gone hub.connections conn))
        by_test false e =
            passing s hub (record { at = at; event = Closed c; stop = stop }) entries refl refl
            (rest _ _ (ap (λ m. map.get m conn) (closing hub at stop c) ∙ remove_other hub.connections c (eqb-false c conn e) ∙ there) clean)

    one_cut : (s : Splitting) (hub : HubState) (at : Moment) (stop : Option Stop) (event : Event) (entries : List Entry) → here hub ≡ Some s → IsClean s → IsNoOpening conn event
        → ((h : HubState) (t : Splitting) → here h ≡ Some t → IsClean t → IsCut t h entries) → ((h : HubState) → here h ≡ None → IsGone h entries)
        → IsCut s hub ((let e : Entry = record { at = at; event = event; stop = stop } in e) ∷ entries)
    one_cut s hub at stop (Datagram peer request) entries there clean o rest ends =
        passing s hub (record { at = at; event = Datagram peer request; stop = stop }) entries refl refl (rest _ _ (datagram_unmoved hub at stop peer request ∙ there) clean)
    one_cut s hub at stop (Opened c) entries there clean o rest ends =
        passing s hub (record { at = at; event = Opened c; stop = stop }) entries refl refl (rest _ _ (opening_unmoved hub at stop c o ∙ there) clean)
    one_cut s hub at stop (Bytes c piece) entries there clean o rest ends = any_piece hub at entries s piece rest ends there clean stop c
    one_cut s hub at stop (Closed c) entries there clean o rest ends = closed s hub at stop c entries there clean rest ends

    cut_on : (s : Splitting) (hub : HubState) (entries : List Entry) → here hub ≡ Some s → IsClean s → NoOpenings entries → IsCut s hub entries
    cut_on s hub [] there clean a = record { begins = none_begins _; all = λ stays_open. sym clean }
    cut_on s hub (entry ∷ entries) there clean a =
        one_cut s hub entry.at entry.stop entry.event entries there clean a.0 (λ h t is c. cut_on t h entries is c a.1) (λ h none. gone h entries none a.1)

fresh : (greatest : ℕ) → (handed_out (fed (started greatest) [])).messages ≡ []
unfolding messages
fresh greatest = refl

pub asks_its_own : ((s : Splitting) (first second : List ℕ) → IsSameInTwo s first second) → AsksItsOwn
asks_its_own law hub entries conn there openings =
    let is = cut_on conn law (started greatest_request) hub entries there (fresh greatest_request) openings in
    record { begins = is.begins; all = is.all }
