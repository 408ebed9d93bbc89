-- The actions of a run are those of what it completes.
use Rattle.std.proofs.Common.{◌≡◌, ℕ, ◌+◌, ◌-◌, Bool, true, false, cond, List, [], ◌∷◌, ◌++◌, Option, Some, None, refl, sym, ap, subst, ◌∙◌, append_assoc}
use Rattle.std.specs.Prelude.{nat_lt, if◌then◌else◌}
use Rattle.std.specs.Option.{is_some}
use Rattle.std.specs.Ordering.{nat_cmp, eq_by_cmp}
use Rattle.std.specs.Cmp.{nat_cmp_total, Equal-is}
use Rattle.std.specs.FinMap as map
use Rattle.std.specs.FinMap.{get_tied, get-insert, get-remove, len-insert, len-remove}
use Rattle.std.specs.List.{flat_map}
use Rattle.std.proofs.lemmas.List.{append-nil}
use Rattle.framing.specs.declared.fault.FrameFault.{FrameFault}
use Rattle.framing.specs.Splitting.{Splitting, fed, started, handed_out, left}
use Rattle.krb_fields.specs.declared.moment.Moment.{Moment}
use Rattle.kdc_hub.specs.declared.event.Action.{Action}
use Rattle.kdc_hub.specs.declared.event.Action.TheVariants.{Write, Close}
use Rattle.kdc_hub.specs.declared.event.Event.{Event}
use Rattle.kdc_hub.specs.declared.event.Event.TheVariants.{Datagram, Opened, Bytes, Closed}
use Rattle.kdc_core.specs.declared.reply.Reply.{Reply}
use Rattle.kdc_hub.specs.declared.event.CloseReason.TheVariants.{BadLength, Full}
use Rattle.kdc_hub.specs.Issuing.{Issuing, after, reply_of, too_long}
use Rattle.kdc_hub.specs.StreamStep.{StreamStep, reply_then, messages_step, stream_step, stream_room, action_for}
use Rattle.kdc_hub.specs.Hub.{HubState, Step, brings, with_stream, hub_step, opened, sent, datagram_room, most_connections, greatest_request}
use Rattle.kdc_hub.specs.Logged.{Log, logged}
use Rattle.kdc_hub.specs.Cutting.{RepliesAreSame, SameOpen}
use Rattle.kdc_hub.specs.Works.{Work, Asked, Requested, Faulted, Begun, Ended, Timed, Happening, all_works, entries, others_if, piece_works, stream_works, works}

abbrev pub Table : Type 0
Table = map.FinMap nat_cmp Splitting

-- tables with the same keys
same_contains : (a b : Option Splitting) (c : Bool) (x y : Splitting) → is_some a ≡ is_some b → is_some (cond c (Some x) a) ≡ is_some (cond c (Some y) b)
same_contains a b true x y e = refl
same_contains a b false x y e = e

same_without : (a b : Option Splitting) (c : Bool) → is_some a ≡ is_some b → is_some (cond c None a) ≡ is_some (cond c None b)
same_without a b true e = refl
same_without a b false e = e

both_set : (a b : Table) (k : ℕ) (x y : Splitting) → SameOpen a b → SameOpen (map.insert a k x) (map.insert b k y)
both_set a b k x y h = record {
  keys = λ q. ap is_some (get-insert nat_cmp_total a k x q) ∙ same_contains (map.get a q) (map.get b q) (eq_by_cmp nat_cmp q k) x y (h.keys q) ∙ sym (ap is_some (get-insert nat_cmp_total b k y q));
  len = len-insert nat_cmp_total a k x ∙ ap (λ c. cond c (map.len a) (map.len a + 1)) (h.keys k) ∙ ap (λ n. cond (map.contains_key b k) n (n + 1)) h.len ∙ sym (len-insert nat_cmp_total b k y);
}

both_out : (a b : Table) (k : ℕ) → SameOpen a b → SameOpen (map.remove a k) (map.remove b k)
both_out a b k h = record {
  keys = λ q. ap is_some (get-remove nat_cmp_total a k q) ∙ same_without (map.get a q) (map.get b q) (eq_by_cmp nat_cmp q k) (h.keys q) ∙ sym (ap is_some (get-remove nat_cmp_total b k q));
  len = len-remove nat_cmp_total a k ∙ ap (λ c. cond c (map.len a - 1) (map.len a)) (h.keys k) ∙ ap (λ n. cond (map.contains_key b k) (n - 1) n) h.len ∙ sym (len-remove nat_cmp_total b k);
}

-- setting an existing key
here_or_there : (a : Table) (k q : ℕ) (c : Bool) (x : Splitting) → eq_by_cmp nat_cmp q k ≡ c → map.contains_key a k ≡ true → is_some (cond c (Some x) (map.get a q)) ≡ is_some (map.get a q)
here_or_there a k q true x e h = sym h ∙ ap is_some (get_tied nat_cmp_total a q k ((Equal-is (nat_cmp q k)).0 e))
here_or_there a k q false x e h = refl

pub one_set : (a : Table) (k : ℕ) (x : Splitting) → map.contains_key a k ≡ true → SameOpen (map.insert a k x) a
one_set a k x h = record {
  keys = λ q. ap is_some (get-insert nat_cmp_total a k x q) ∙ here_or_there a k q (eq_by_cmp nat_cmp q k) x refl h;
  len = len-insert nat_cmp_total a k x ∙ ap (λ c. cond c (map.len a) (map.len a + 1)) h;
}

pub same_turned : (a b : Table) → SameOpen a b → SameOpen b a
same_turned a b h = record { keys = λ q. sym (h.keys q); len = sym h.len }

pub same_then : (a b c : Table) → SameOpen a b → SameOpen b c → SameOpen a c
same_then a b c h k = record { keys = λ q. h.keys q ∙ k.keys q; len = h.len ∙ k.len }

-- what is done for one piece of work, given only the keys of a table
pub record Place : Type 0 where
  pub issuing : Issuing
  pub table : Table

abbrev pub table_after : Option Reply → Table → ℕ → Table
table_after (Some reply) table conn = table
table_after None table conn = map.remove table conn

abbrev pub begin : Place → ℕ → Place
begin p conn =
    if map.contains_key p.table conn then p
    else if nat_lt (map.len p.table) most_connections then record p { table = map.insert p.table conn (started greatest_request) }
    else p

abbrev pub begin_actions : Place → ℕ → List Action
begin_actions p conn =
    if map.contains_key p.table conn then []
    else if nat_lt (map.len p.table) most_connections then []
    else Close conn Full ∷ []

abbrev pub goes_to : Place → Moment → Work → Place
goes_to p at (Asked peer request) = record p { issuing = after p.issuing at datagram_room request }
goes_to p at (Requested conn request) = record { issuing = after p.issuing at stream_room request; table = table_after (reply_of p.issuing at stream_room request) p.table conn }
goes_to p at (Faulted conn) = record p { table = map.remove p.table conn }
goes_to p at (Begun conn) = begin p conn
goes_to p at (Ended conn) = record p { table = map.remove p.table conn }

abbrev pub acts : Place → Moment → Work → List Action
acts p at (Asked peer request) = sent peer (reply_of p.issuing at datagram_room request)
acts p at (Requested conn request) = action_for conn (reply_of p.issuing at stream_room request) ∷ []
acts p at (Faulted conn) = Write conn (too_long p.issuing.kdc at) ∷ Close conn BadLength ∷ []
acts p at (Begun conn) = begin_actions p conn
acts p at (Ended conn) = []

abbrev pub all_acts : Place → List Timed → List Action
all_acts p [] = []
all_acts p (w ∷ ws) = acts p w.at w.work ++ all_acts (goes_to p w.at w.work) ws

abbrev pub last_place : Place → List Timed → Place
last_place p [] = p
last_place p (w ∷ ws) = last_place (goes_to p w.at w.work) ws

acts_append : (p : Place) (vs ws : List Timed) → all_acts p (vs ++ ws) ≡ all_acts p vs ++ all_acts (last_place p vs) ws
acts_append p [] ws = refl
acts_append p (v ∷ vs) ws = ap (λ (l : List Action). acts p v.at v.work ++ l) (acts_append (goes_to p v.at v.work) vs ws) ∙ sym (append_assoc (acts p v.at v.work) (all_acts (goes_to p v.at v.work) vs) (all_acts (last_place (goes_to p v.at v.work) vs) ws))

place_append : (p : Place) (vs ws : List Timed) → last_place p (vs ++ ws) ≡ last_place (last_place p vs) ws
place_append p [] ws = refl
place_append p (v ∷ vs) ws = place_append (goes_to p v.at v.work) vs ws

-- the messages of a stream
abbrev pub table_if : Bool → Table → ℕ → Table
table_if true table conn = table
table_if false table conn = map.remove table conn

abbrev pub place_if : StreamStep → Table → ℕ → Place
place_if s table conn = record { issuing = s.issuing; table = table_if s.stays table conn }

pub record IsStreamWorked (i : Issuing) (at : Moment) (conn : ℕ) (fault : Option FrameFault) (ms : List (List ℕ)) (table : Table) : Type 0 where
  pub actions : all_acts (record { issuing = i; table = table }) (stream_works i at conn fault ms) ≡ (messages_step i at conn fault ms).actions
  pub place : last_place (record { issuing = i; table = table }) (stream_works i at conn fault ms) ≡ record { issuing = (messages_step i at conn fault ms).issuing; table = table_if (messages_step i at conn fault ms).stays table conn }

stream_worked : (i : Issuing) (at : Moment) (conn : ℕ) (fault : Option FrameFault) (ms : List (List ℕ)) (table : Table) → IsStreamWorked i at conn fault ms table
unfolding messages_step stream_works
stream_worked i at conn None [] table = record { actions = refl; place = refl }
stream_worked i at conn (Some fault) [] table = record { actions = refl; place = refl }
stream_worked i at conn fault (m ∷ ms) table = at_reply (reply_of i at stream_room m) refl (stream_worked (after i at stream_room m) at conn fault ms table)
  where
    next : Option Reply → Place
    next x = record { issuing = after i at stream_room m; table = table_after x table conn }

    at_reply : (r : Option Reply) → reply_of i at stream_room m ≡ r → IsStreamWorked (after i at stream_room m) at conn fault ms table → IsStreamWorked i at conn fault (m ∷ ms) table
    at_reply (Some r) e others = record {
      actions =
          ap (λ x. action_for conn x ∷ all_acts (next x) (others_if x (stream_works (after i at stream_room m) at conn fault ms))) e
          ∙ ap (λ (l : List Action). Write conn r ∷ l) others.actions
          ∙ sym (ap (λ x. (reply_then conn x (after i at stream_room m) (messages_step (after i at stream_room m) at conn fault ms)).actions) e);
      place =
          ap (λ x. last_place (next x) (others_if x (stream_works (after i at stream_room m) at conn fault ms))) e
          ∙ others.place
          ∙ sym (ap (λ x. place_if (reply_then conn x (after i at stream_room m) (messages_step (after i at stream_room m) at conn fault ms)) table conn) e);
    }
    at_reply None e others = record {
      actions =
          ap (λ x. action_for conn x ∷ all_acts (next x) (others_if x (stream_works (after i at stream_room m) at conn fault ms))) e
          ∙ sym (ap (λ x. (reply_then conn x (after i at stream_room m) (messages_step (after i at stream_room m) at conn fault ms)).actions) e);
      place =
          ap (λ x. last_place (next x) (others_if x (stream_works (after i at stream_room m) at conn fault ms))) e
          ∙ sym (ap (λ x. place_if (reply_then conn x (after i at stream_room m) (messages_step (after i at stream_room m) at conn fault ms)) table conn) e);
    }

abbrev pub place_of : HubState → Table → Place
place_of hub t = record { issuing = hub.issuing; table = t }

-- a step does what its pieces of work do
record IsWorked (step : Step) (p : Place) (ws : List Timed) : Type 0 where
  pub actions : step.actions ≡ all_acts p ws
  pub issuing : step.hub.issuing ≡ (last_place p ws).issuing
  pub same : SameOpen step.hub.connections (last_place p ws).table

opens : (hub : HubState) (at : Moment) (conn : ℕ) (t : Table) (b c : Bool) → map.contains_key hub.connections conn ≡ b → map.contains_key t conn ≡ b → nat_lt (map.len hub.connections) most_connections ≡ c → nat_lt (map.len t) most_connections ≡ c
    → SameOpen hub.connections t → IsWorked (opened hub conn) (place_of hub t) (works hub at (Opened conn))
opens hub at conn t true c e f g k h = record { actions = rw (e, f) refl; issuing = rw (e, f) refl; same = rw (e, f) h }
opens hub at conn t false true e f g k h = record { actions = rw (e, f, g, k) refl; issuing = rw (e, f, g, k) refl; same = rw (e, f, g, k) (both_set hub.connections t conn (started greatest_request) (started greatest_request) h) }
opens hub at conn t false false e f g k h = record { actions = rw (e, f, g, k) refl; issuing = rw (e, f, g, k) refl; same = rw (e, f, g, k) h }

keeps : (hub : HubState) (conn : ℕ) (x : Splitting) (i : Issuing) (t : Table) (b : Bool) → map.contains_key hub.connections conn ≡ true → SameOpen hub.connections t → SameOpen (with_stream b hub conn x i).connections (table_if b t conn)
keeps hub conn x i t true there h = same_then (map.insert hub.connections conn x) hub.connections t (one_set hub.connections conn x there) h
keeps hub conn x i t false there h = both_out hub.connections t conn h

with_stream_issuing : (b : Bool) (hub : HubState) (conn : ℕ) (x : Splitting) (i : Issuing) → (with_stream b hub conn x i).issuing ≡ i
with_stream_issuing true hub conn x i = refl
with_stream_issuing false hub conn x i = refl

brings_worked : (hub : HubState) (at : Moment) (conn : ℕ) (piece : List ℕ) (t : Table) (o : Option Splitting) → map.get hub.connections conn ≡ o → SameOpen hub.connections t
    → IsWorked (brings hub at conn piece o) (place_of hub t) (piece_works hub.issuing at conn piece o)
brings_worked hub at conn piece t None e h = record { actions = refl; issuing = refl; same = h }
brings_worked hub at conn piece t (Some s) e h =
    let f : Splitting = fed s piece in
    let is = stream_worked hub.issuing at conn (handed_out f).fault (handed_out f).messages t in
    let r : StreamStep = stream_step hub.issuing at conn f in record {
      actions = sym is.actions;
      issuing = with_stream_issuing r.stays hub conn (left f) r.issuing ∙ sym (ap (λ (p : Place). p.issuing) is.place);
      same = subst (λ (p : Place). SameOpen (with_stream r.stays hub conn (left f) r.issuing).connections p.table) (sym is.place) (keeps hub conn (left f) r.issuing t r.stays (ap is_some e) h);
    }

step_worked : (hub : HubState) (at : Moment) (event : Event) (t : Table) → SameOpen hub.connections t → IsWorked (hub_step hub at event) (place_of hub t) (works hub at event)
step_worked hub at (Datagram peer request) t h = record { actions = sym (append-nil (sent peer (reply_of hub.issuing at datagram_room request))); issuing = refl; same = h }
step_worked hub at (Opened conn) t h = opens hub at conn t (map.contains_key hub.connections conn) (nat_lt (map.len hub.connections) most_connections) refl (sym (h.keys conn)) refl (ap (λ n. nat_lt n most_connections) (sym h.len)) h
step_worked hub at (Bytes conn piece) t h = brings_worked hub at conn piece t (map.get hub.connections conn) refl h
step_worked hub at (Closed conn) t h = record { actions = refl; issuing = refl; same = both_out hub.connections t conn h }

-- and so does a run
record IsRun (log : Log) (p : Place) (ws : List Timed) : Type 0 where
  pub actions : flat_map (λ (l : List Action). l) log.actions ≡ all_acts p ws
  pub issuing : log.hub.issuing ≡ (last_place p ws).issuing
  pub same : SameOpen log.hub.connections (last_place p ws).table

run_worked : (hub : HubState) (t : Table) (hs : List Happening) → SameOpen hub.connections t → IsRun (logged hub (entries hs)) (place_of hub t) (all_works hub hs)
run_worked hub t [] h = record { actions = refl; issuing = refl; same = h }
run_worked hub t (e ∷ hs) h =
    let w = step_worked hub e.at e.event t h in
    let ws : List Timed = works hub e.at e.event in
    let new : HubState = (hub_step hub e.at e.event).hub in
    let p : Place = last_place (place_of hub t) ws in
    let next : place_of new p.table ≡ p = ap (λ (i : Issuing). let q : Place = record { issuing = i; table = p.table } in q) w.issuing in
    let others = run_worked new p.table hs w.same in
    let whole : last_place (place_of hub t) (ws ++ all_works new hs) ≡ last_place (place_of new p.table) (all_works new hs) = place_append (place_of hub t) ws (all_works new hs) ∙ ap (λ q. last_place q (all_works new hs)) (sym next) in record {
      actions =
          ap (λ (l : List Action). l ++ flat_map (λ (l : List Action). l) (logged new (entries hs)).actions) w.actions
          ∙ ap (λ (l : List Action). all_acts (place_of hub t) ws ++ l) (others.actions ∙ ap (λ q. all_acts q (all_works new hs)) next)
          ∙ sym (acts_append (place_of hub t) ws (all_works new hs));
      issuing = others.issuing ∙ sym (ap (λ (q : Place). q.issuing) whole);
      same = subst (λ (q : Place). SameOpen (logged new (entries hs)).hub.connections q.table) (sym whole) others.same;
    }

-- runs that complete the same work give the same replies
pub same_replies : RepliesAreSame
same_replies start es fs e =
    let there : SameOpen start.connections start.connections = record { keys = λ q. refl; len = refl } in
    let a = run_worked start start.connections es there in
    let b = run_worked start start.connections fs there in
    let p : Place = place_of start start.connections in record {
      actions = a.actions ∙ ap (all_acts p) e ∙ sym b.actions;
      issuing = a.issuing ∙ ap (λ ws. (last_place p ws).issuing) e ∙ sym b.issuing;
      connections = same_then (logged start (entries es)).hub.connections (last_place p (all_works start fs)).table (logged start (entries fs)).hub.connections
          (subst (λ ws. SameOpen (logged start (entries es)).hub.connections (last_place p ws).table) e a.same) (same_turned (logged start (entries fs)).hub.connections (last_place p (all_works start fs)).table b.same);
    }
