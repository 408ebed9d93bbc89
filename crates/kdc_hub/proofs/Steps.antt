-- The hub after a call is the hub after the step.
use Rattle.std.proofs.Common.{◌≡◌, ℕ, ◌≤◌, arith, Bool, true, false, List, [], ◌∷◌, ◌++◌, length, take, Option, Some, None, Result, Ok, Err, refl, sym, ap, subst, ◌∙◌, Vec}
use Rattle.std.specs.Global.{Global}
use Rattle.std.specs.Prelude.{IfOk, IfErr, nat_lt}
use Rattle.std.proofs.lemmas.Bool.{le-ltb}
use Rattle.std.specs.Ordering.{nat_cmp}
use Rattle.std.specs.FinMap as map
use Rattle.rand_core.specs.Stream.{Stream, fill_bytes}
use Rattle.framing.specs.Splitting.{Splitting, fed, handed_out, left}
use Rattle.krb_fields.specs.declared.moment.Moment.{Moment}
use Rattle.kdc_hub.specs.declared.event.Action.{Action}
use Rattle.kdc_hub.specs.declared.event.Action.TheVariants.{Close}
use Rattle.kdc_hub.specs.declared.event.CloseReason.TheVariants.{Full}
use Rattle.kdc_hub.specs.declared.event.Event.{Event}
use Rattle.kdc_hub.specs.declared.event.Event.TheVariants.{Datagram, Opened}
use Rattle.kdc_hub.specs.declared.event.HubFault.{HubFault}
use Rattle.kdc_hub.specs.declared.event.Peer.{Peer}
use Rattle.kdc_core.specs.declared.reply.Reply.{Reply}
use Rattle.kdc_state.specs.declared.state.State.{State}
use Rattle.kdc_hub.specs.Issuing.{Issuing, after, reply_of}
use Rattle.kdc_hub.specs.StreamStep.{StreamStep, after_some, drawn, stream_step}
use Rattle.kdc_hub.specs.Hub.{HubState, Step, Steps, brings, datagram_room, sent, with_stream, opened, messages_in, stopped_issuing, most_connections}
use Rattle.kdc_hub.proofs.Tables.{set_anew, taken_out}

abbrev pub Table : Type 0
Table = map.FinMap nat_cmp Splitting

pub same_issuing : (k l : State) (r s : Stream) (a b : Bool) → k ≡ l → r ≡ s → a ≡ b → (let x : Issuing = record { kdc = k; random = r; audits = a } in x) ≡ record { kdc = l; random = s; audits = b }
same_issuing k l r s a b e h f = λ i. record { kdc = e i; random = h i; audits = f i }

-- nothing was answered, and nothing drawn, or 64 bytes
pub stopped_before : (n draws : ℕ) (i : Issuing) (at : Moment) (requests : List (List ℕ)) → n ≡ 0 → draws ≡ 0 → i ≡ stopped_issuing i at requests n draws
unfolding after_some drawn
stopped_before n draws i at requests e d = rw (e, d) refl

pub stopped_drawn : (n draws : ℕ) (i i' : Issuing) (at : Moment) (requests : List (List ℕ)) → n ≡ 0 → draws ≡ 1 → i'.kdc ≡ i.kdc → i'.random ≡ (fill_bytes 64 i.random).1 → i'.audits ≡ i.audits → i' ≡ stopped_issuing i at requests n draws
unfolding after_some drawn
stopped_drawn n draws i i' at requests e d kdc random audits = rw (e, d) (same_issuing i'.kdc i.kdc i'.random _ i'.audits i.audits kdc random audits)

pub same_hub_state : (i j : Issuing) (c d : Table) → i ≡ j → c ≡ d → (let s : HubState = record { issuing = i; connections = c } in s) ≡ record { issuing = j; connections = d }
same_hub_state i j c d e h = rw (e, h) refl

-- ---- a datagram: it was answered with one action, or memory ran out before that, or for the answer

module _ (hub : HubState) (at : Moment) (peer : Peer) (request : List ℕ) (event : Event) (datagram : event ≡ Datagram peer request) where
  pub datagram_answered : (octets : List ℕ) (reply : Option Reply) (action : Action) (before : List Action) (actions : Vec Action Global) (i : Issuing)
      → octets ≡ request → before ≡ [] → actions.items ≡ before ++ action ∷ [] → action ∷ [] ≡ sent peer reply
      → reply ≡ reply_of hub.issuing at datagram_room octets → i ≡ after hub.issuing at datagram_room octets
      → Steps hub at event (Ok actions) (record { issuing = i; connections = hub.connections })
  datagram_answered octets reply action before actions i same none pushed is made issues =
      subst (λ e. Steps hub at e (Ok actions) (record { issuing = i; connections = hub.connections })) (sym datagram) (
        pushed ∙ ap (λ l. l ++ action ∷ []) none ∙ is ∙ ap (sent peer) (made ∙ ap (reply_of hub.issuing at datagram_room) same),
        same_hub_state i _ hub.connections hub.connections (issues ∙ ap (after hub.issuing at datagram_room) same) refl,
      )

  pub datagram_stopped : (fault : HubFault) → fault.done.items ≡ [] → fault.draws ≡ 0 → fault.conn ≡ None → Steps hub at event (Err fault) hub
  datagram_stopped fault none draws conn =
      subst (λ e. Steps hub at e (Err fault) hub) (sym datagram)
      (none, same_hub_state hub.issuing _ hub.connections hub.connections (stopped_before _ _ hub.issuing at [] (ap length none) draws) refl, conn)

  pub datagram_drawn : (fault : HubFault) (i : Issuing) → fault.done.items ≡ [] → fault.draws ≡ 1 → fault.conn ≡ None
      → i.kdc ≡ hub.issuing.kdc → i.random ≡ (fill_bytes 64 hub.issuing.random).1 → i.audits ≡ hub.issuing.audits
      → Steps hub at event (Err fault) (record { issuing = i; connections = hub.connections })
  datagram_drawn fault i none draws conn kdc random audits =
      subst (λ e. Steps hub at e (Err fault) (record { issuing = i; connections = hub.connections })) (sym datagram)
      (none, same_hub_state i _ hub.connections hub.connections (stopped_drawn _ _ hub.issuing i at [] (ap length none) draws kdc random audits) refl, conn)

-- ---- a piece of a connection's stream

module _ (hub : HubState) (at : Moment) (conn : ℕ) (piece : List ℕ) (o : Option Splitting) (s f : Splitting) (is : o ≡ Some s) (feed : f ≡ fed s piece) where
  full : Splitting → StreamStep
  full x = stream_step hub.issuing at conn x

  taken_actions : (full f).actions ≡ (brings hub at conn piece o).actions
  unfolding full
  taken_actions = ap (λ x. (full x).actions) feed ∙ sym (ap (λ x. (brings hub at conn piece x).actions) is)

  with_stream_hub : (b : Bool) → b ≡ (full f).stays → with_stream b hub conn (left f) (full f).issuing ≡ (brings hub at conn piece o).hub
  unfolding full
  with_stream_hub b e = ap (λ c. with_stream c hub conn (left f) (full f).issuing) e ∙ ap (λ x. with_stream (full x).stays hub conn (left x) (full x).issuing) feed ∙ sym (ap (λ x. (brings hub at conn piece x).hub) is)

  -- the connection stays open
  pub stays_there : (actions : List Action) (i : Issuing) (t place : Splitting) (table table' : Table) (stays : Bool)
      → actions ≡ (stream_step hub.issuing at conn f).actions → i ≡ (stream_step hub.issuing at conn f).issuing → stays ≡ (stream_step hub.issuing at conn f).stays → stays ≡ true
      → t ≡ left f → table ≡ map.insert hub.connections conn place → table' ≡ map.insert table conn t
      → (actions ≡ (brings hub at conn piece o).actions) × ((let x : HubState = record { issuing = i; connections = table' } in x) ≡ (brings hub at conn piece o).hub)
  unfolding full
  stays_there actions i t place table table' stays acts issues e open_still same first then = (
    acts ∙ taken_actions,
    same_hub_state i (full f).issuing table' (map.insert hub.connections conn (left f)) issues (then ∙ ap (λ m. map.insert m conn t) first ∙ set_anew hub.connections conn place t ∙ ap (map.insert hub.connections conn) same)
        ∙ with_stream_hub true (sym open_still ∙ e),
  )

  -- it is closed
  pub is_closed : (actions : List Action) (i : Issuing) (place : Splitting) (table table' : Table) (stays : Bool)
      → actions ≡ (stream_step hub.issuing at conn f).actions → i ≡ (stream_step hub.issuing at conn f).issuing → stays ≡ (stream_step hub.issuing at conn f).stays → stays ≡ false
      → table ≡ map.insert hub.connections conn place → table' ≡ map.remove table conn
      → (actions ≡ (brings hub at conn piece o).actions) × ((let x : HubState = record { issuing = i; connections = table' } in x) ≡ (brings hub at conn piece o).hub)
  unfolding full
  is_closed actions i place table table' stays acts issues e closed first then = (
    acts ∙ taken_actions,
    same_hub_state i (full f).issuing table' (map.remove hub.connections conn) issues (then ∙ ap (λ m. map.remove m conn) first ∙ taken_out hub.connections conn place)
        ∙ with_stream_hub false (sym closed ∙ e),
  )

  -- memory ran out
  pub is_stopped : (done : List Action) (i : Issuing) (draws : ℕ) (place : Splitting) (table table' : Table)
      → done ≡ take (length done) (stream_step hub.issuing at conn f).actions → i.kdc ≡ (after_some (length done) hub.issuing at (handed_out f).messages).kdc → i.random ≡ drawn draws hub.issuing.random → i.audits ≡ hub.issuing.audits
      → table ≡ map.insert hub.connections conn place → table' ≡ map.remove table conn
      → (done ≡ take (length done) (brings hub at conn piece o).actions)
      × ((let x : HubState = record { issuing = i; connections = table' } in x) ≡ record { issuing = stopped_issuing hub.issuing at (messages_in piece o) (length done) draws; connections = map.remove hub.connections conn })
  unfolding full
  is_stopped done i draws place table table' acts kdc random audits first then = (
    acts ∙ ap (take (length done)) taken_actions,
    same_hub_state i _ table' (map.remove hub.connections conn)
        (same_issuing i.kdc _ i.random _ i.audits hub.issuing.audits kdc random audits ∙ ap (λ x. stopped_issuing hub.issuing at (handed_out x).messages (length done) draws) feed ∙ sym (ap (λ x. stopped_issuing hub.issuing at (messages_in piece x) (length done) draws) is))
        (then ∙ ap (λ m. map.remove m conn) first ∙ taken_out hub.connections conn place),
  )

-- nothing of the piece was read
pub not_fed : (hub : HubState) (at : Moment) (conn : ℕ) (piece : List ℕ) (o : Option Splitting) (done : List Action) (draws : ℕ) (place : Splitting) (table table' : Table)
    → done ≡ [] → draws ≡ 0 → table ≡ map.insert hub.connections conn place → table' ≡ map.remove table conn
    → (done ≡ take (length done) (brings hub at conn piece o).actions)
    × ((let x : HubState = record { issuing = hub.issuing; connections = table' } in x) ≡ record { issuing = stopped_issuing hub.issuing at (messages_in piece o) (length done) draws; connections = map.remove hub.connections conn })
not_fed hub at conn piece o done draws place table table' e d first then =
    (rw e refl, same_hub_state hub.issuing _ table' _ (stopped_before (length done) draws hub.issuing at (messages_in piece o) (ap length e) d) (then ∙ ap (λ m. map.remove m conn) first ∙ taken_out hub.connections conn place))

full_there : (hub : HubState) (conn : ℕ) → map.contains_key hub.connections conn ≡ false → nat_lt (map.len hub.connections) most_connections ≡ false → opened hub conn ≡ record { actions = Close conn Full ∷ []; hub = hub }
full_there hub conn e h = rw (e, h) refl

-- a connection for which there is no room
pub table_full : (hub : HubState) (at : Moment) (conn : ℕ) (there : Bool) (n : ℕ) (r : Result (Vec Action Global) HubFault)
    → there ≡ map.contains_key hub.connections conn → there ≡ false → n ≡ map.len hub.connections → most_connections ≤ n
    → IfOk r (λ actions. actions.items ≡ Close conn Full ∷ []) → IfErr r (λ fault. fault.done.items ≡ []) → IfErr r (λ fault. fault.conn ≡ Some conn) → IfErr r (λ fault. fault.draws ≡ 0)
    → Steps hub at (Opened conn) r hub
table_full hub at conn there n (Ok actions) is no_one len le ok done at_conn draws =
    let e = full_there hub conn (sym is ∙ no_one) (le-ltb (map.len hub.connections) most_connections (omega (arith, len, le))) in
    (ok ∙ sym (ap (λ (s : Step). s.actions) e), sym (ap (λ (s : Step). s.hub) e))
table_full hub at conn there n (Err fault) is no_one len le ok done at_conn draws =
    (done, same_hub_state _ _ _ _ (stopped_before _ _ hub.issuing at _ (ap length done) draws) refl, at_conn)
