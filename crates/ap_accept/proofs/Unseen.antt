-- An acceptor that drops old entries answers as one that doesn't: their caches agree from a second on, and no call
-- comes before it.
use Rattle.std.proofs.Common.{◌≡◌, ◌-ℤ◌, ◌≤ℤ◌, Bool, true, false, cond, if◌then◌else◌, ℕ, ℤ, pos, List, [], ◌∷◌, Option, Some, None, refl, ap, sym, subst, ◌∙◌, arith}
use Rattle.std.specs.Prelude.{⊤, option_and_then, option_map}
use Rattle.std.specs.Int.{int_max}
use Rattle.std.specs.List.{AllByRecursion}
use Rattle.std.proofs.lemmas.Int.{ints, clamps}
use Rattle.krb_types.specs.ApReq.{ApReq}
use Rattle.krb_fields.specs.Name.{Components}
use Rattle.krb_fields.specs.Skew.{skew}
use Rattle.krb_types.specs.Authenticator.{Authenticator}
use Rattle.krb_types.specs.EncTicketPart.{EncTicketPart}
use Rattle.cred_files.specs.declared.keytab_entry.KeytabEntry.{KeytabEntry}
use Rattle.replay.specs.ReplayCache.{recorded, verdict}
use Rattle.replay.specs.Stamp.{Stamp}
use Rattle.ap_accept.specs.Accepts.{accepts, after_recording, answer_by, cache_for, if_request, recorded_of, recording, refused_by, request_of, stamp_of, unless_before}
use Rattle.ap_accept.specs.Clients.{floor_for, hour}
use Rattle.ap_accept.specs.Contents.{authenticator_in, contents, entry_in, presented_in, service_of, session_key_in, ticket_in, verdict_in, with_ticket}
use Rattle.ap_accept.specs.Named.{accepts_for, accepts_keyless, is_for_another}
use Rattle.ap_accept.specs.Reply.{asks_reply}
use Rattle.ap_accept.specs.Rules.{first_row, rows}
use Rattle.ap_accept.specs.Run.{Call, DropsUnseen, Event, Accept, AcceptFor, Replace, Resume, IsFrom, Steady, after_call, after_keeping, after_named, answers, is_party, keeping, keeping_if}
use Rattle.ap_accept.specs.State.{cache_of, renewed, with_keytab}
use Rattle.ap_accept.specs.declared.options.AcceptorOptions.{AcceptorOptions}
use Rattle.ap_accept.specs.declared.presented.Presented.{Presented}
use Rattle.ap_accept.specs.declared.state.State.{State}
use Rattle.ap_accept.proofs.Frame.{next_cache, recording_keeps, stored_keeps}
use Rattle.ap_accept.proofs.DroppingExpired.{as_empty_on}
use Rattle.ap_accept.proofs.Others.{kept_keyless}
use Rattle.ap_accept.proofs.Raised.{alike_on, raised, recorded_alike, says_the_same}

-- the same keys and options, and replay caches that agree from this second on
record Alike (second : ℤ) (s t : State) : Type 0 where
  pub keytab : s.keytab ≡ t.keytab
  pub options : s.options ≡ t.options
  pub caches : (service client : Components) → raised second (cache_of s service client) ≡ raised second (cache_of t service client)

-- ---- the answer

module _ (second now : ℤ) (s t : State) (alike : Alike second s t) (le : second ≤ℤ (now -ℤ pos skew)) where
  same_verdict : (request : ApReq) (ticket : Option EncTicketPart) (auth : Option Authenticator) → verdict_in s now request ticket auth ≡ verdict_in t now request ticket auth
  same_verdict request (Some ticket) (Some auth) =
      let service = service_of request in
      let client = ticket.cname.components in
      let stamp : Stamp = (auth.ctime, auth.cusec) in
      ap (λ (o : AcceptorOptions). Some (verdict (cache_of s service client) now stamp o.remembered)) alike.options
      ∙ ap Some (says_the_same second now (cache_of s service client) (cache_of t service client) stamp t.options.remembered le (alike.caches service client))
  same_verdict request (Some ticket) None = refl
  same_verdict request None auth = refl

  same_contents : (request : ApReq) → contents s now request ≡ contents t now request
  same_contents request =
      let entry = entry_in t.keytab request in
      let ticket = ticket_in request entry in
      let key = session_key_in ticket in
      let auth = authenticator_in request key in
      ap (λ (k : List KeytabEntry). with_ticket s now request (entry_in k request) (ticket_in request (entry_in k request))) alike.keytab
      ∙ (λ i. record { entry = entry; ticket = ticket; session_key = key; authenticator = auth; verdict = same_verdict request ticket auth i })

  same_row : (request : ApReq) → refused_by s now request ≡ refused_by t now request
  same_row request = λ i. first_row (rows (alike.keytab i) now request (same_contents request i))

  same_recorded : (request : ApReq) → recorded_of s now request ≡ recorded_of t now request
  same_recorded request = λ i. unless_before (same_row request i) (presented_in request (same_contents request i))

  same_answer : (confounder : List ℕ) (o : Option ApReq) → (if_request s now confounder o).answer ≡ (if_request t now confounder o).answer
  same_answer confounder (Some request) = λ i. answer_by confounder (asks_reply request) (option_map (λ row. row.refusal) (same_row request i)) (same_recorded request i)
  same_answer confounder None = refl

-- ---- the state afterwards

module _ (second now high : ℤ) (s t : State) (alike : Alike second s t) (le : second ≤ℤ (now -ℤ pos skew)) (on : second ≤ℤ high) (gone : floor_for now ≤ℤ high) where
  still_alike : Alike high s t
  still_alike = record {
    keytab = alike.keytab;
    options = alike.options;
    caches = λ service client.
        let a = cache_of s service client in
        let b = cache_of t service client in
        alike_on second high (a.floor, a.pairs) (b.floor, b.pairs) on (alike.caches service client);
  }

  module _ (p : Presented) (service client : Components) where
    same_next : (b : Bool)
        → raised high (cond b (recorded (cache_for s p) now (stamp_of p) tt) (cache_of s service client)) ≡ raised high (cond b (recorded (cache_for t p) now (stamp_of p) tt) (cache_of t service client))
    same_next true = recorded_alike second now (cache_for s p) (cache_for t p) (stamp_of p) le (alike.caches p.service.components p.ticket.cname.components) high
    same_next false = still_alike.caches service client

    -- dropping on one side
    same_gone : raised high (cache_of (recording s now p) service client) ≡ raised high (next_cache t now p service client)
    same_gone =
        recording_keeps s now p service client (λ m. raised high m ≡ raised high (next_cache t now p service client))
        (λ m lost same. as_empty_on (floor_for now) m lost high gone ∙ same) (same_next (is_party service client p))

    same_kept : raised high (cache_of (keeping t now p) service client) ≡ raised high (next_cache t now p service client)
    same_kept = stored_keeps t now p service client (λ clients. clients) (λ m. raised high m ≡ raised high (next_cache t now p service client)) (λ same h. h) refl

  alike_recording : (p : Presented) → Alike high (recording s now p) (keeping t now p)
  alike_recording p = record {
    keytab = alike.keytab;
    options = alike.options;
    caches = λ service client. same_gone p service client ∙ sym (same_kept p service client);
  }

  alike_if : (o : Option Presented) → Alike high (after_recording s now o) (keeping_if t now o)
  alike_if (Some p) = alike_recording p
  alike_if None = still_alike

  alike_after : (confounder : List ℕ) (o : Option ApReq) → Alike high (if_request s now confounder o).state (keeping_if t now (option_and_then (recorded_of t now) o))
  alike_after confounder (Some request) =
      subst (λ (p : Option Presented). Alike high (after_recording s now (recorded_of s now request)) (keeping_if t now p)) (same_recorded second now s t alike le request) (alike_if (recorded_of s now request))
  alike_after confounder None = still_alike

-- ---- a run

-- no call comes before the second, with the clock skew
abbrev Follows : ℤ → Event → Type 0
Follows second (Accept call) = second ≤ℤ (call.at.sec -ℤ pos skew)
Follows second (AcceptFor name call) = second ≤ℤ (call.at.sec -ℤ pos skew)
Follows second (Replace keytab) = ⊤
Follows second (Resume keytab options) = ⊤

abbrev Follow : ℤ → List Event → Type 0
Follow second events = AllByRecursion (Follows second) events

least : (second now at : ℤ) → second ≤ℤ (at -ℤ pos skew) → (now -ℤ pos hour) ≤ℤ at → int_max second (floor_for now) ≤ℤ (at -ℤ pos skew)
least second now at le steady = grind (arith, ints, clamps)

follow_on : (second now : ℤ) (events : List Event) → Follow second events → AllByRecursion (IsFrom (now -ℤ pos hour)) events → Follow (int_max second (floor_for now)) events
follow_on second now [] follow steady = tt
follow_on second now (Accept call ∷ events) follow steady = (least second now call.at.sec follow.0 steady.0, follow_on second now events follow.1 steady.1)
follow_on second now (AcceptFor name call ∷ events) follow steady = (least second now call.at.sec follow.0 steady.0, follow_on second now events follow.1 steady.1)
follow_on second now (Replace keytab ∷ events) follow steady = (tt, follow_on second now events follow.1 steady.1)
follow_on second now (Resume keytab options ∷ events) follow steady = (tt, follow_on second now events follow.1 steady.1)

max_left : (a b : ℤ) → a ≤ℤ int_max a b
max_left a b = grind (arith, ints, clamps)

max_right : (a b : ℤ) → b ≤ℤ int_max a b
max_right a b = grind (arith, ints, clamps)

-- the same keys in place of the old ones
alike_with : (second : ℤ) (s t : State) (keytab : List KeytabEntry) → Alike second s t → Alike second (with_keytab s keytab) (with_keytab t keytab)
alike_with second s t keytab alike = record { keytab = refl; options = alike.options; caches = alike.caches }

-- the same keys and options
alike_renewed : (second : ℤ) (s t : State) (keytab : List KeytabEntry) (options : AcceptorOptions) → Alike second s t → Alike second (renewed s keytab options) (renewed t keytab options)
alike_renewed second s t keytab options alike = record { keytab = refl; options = refl; caches = alike.caches }

-- ---- a call for the service of a name alone

module _ (second : ℤ) (s t : State) (call : Call) (alike : Alike second s t) (le : second ≤ℤ (call.at.sec -ℤ pos skew)) where
  abbrev high : ℤ
  high = int_max second (floor_for call.at.sec)

  alike_named : (b : Bool) → Alike high
      (if b then (accepts_keyless s call.at call.confounder call.octets).state else after_call s call)
      (if b then (accepts_keyless t call.at call.confounder call.octets).state else after_keeping t call)
  alike_named true =
      subst (λ (new : State). Alike high new (accepts_keyless t call.at call.confounder call.octets).state)
      (sym (kept_keyless [] s call.at call.confounder call.octets))
      (subst (λ (new : State). Alike high s new) (sym (kept_keyless [] t call.at call.confounder call.octets))
      (still_alike second call.at.sec high s t alike le (max_left second (floor_for call.at.sec)) (max_right second (floor_for call.at.sec))))
  alike_named false =
      alike_after second call.at.sec high s t alike le (max_left second (floor_for call.at.sec)) (max_right second (floor_for call.at.sec))
      call.confounder (request_of call.octets)

  same_named : (b : Bool)
      → (if b then accepts_keyless s call.at call.confounder call.octets else accepts s call.at call.confounder call.octets).answer
      ≡ (if b then accepts_keyless t call.at call.confounder call.octets else accepts t call.at call.confounder call.octets).answer
  same_named true =
      same_answer second call.at.sec (with_keytab s []) (with_keytab t []) (alike_with second s t [] alike) le call.confounder (request_of call.octets)
  same_named false = same_answer second call.at.sec s t alike le call.confounder (request_of call.octets)

-- ---- all events

all_same : (second : ℤ) (s t : State) (events : List Event) → Alike second s t → Follow second events → Steady events → answers after_call s events ≡ answers after_keeping t events
all_same second s t [] alike follow steady = refl
all_same second s t (Accept call ∷ events) alike follow steady =
    let now : ℤ = call.at.sec in
    let high : ℤ = int_max second (floor_for now) in
    let next : Alike high (after_call s call) (after_keeping t call) =
    alike_after second now high s t alike follow.0 (max_left second (floor_for now)) (max_right second (floor_for now)) call.confounder (request_of call.octets) in
    let here : (accepts s call.at call.confounder call.octets).answer ≡ (accepts t call.at call.confounder call.octets).answer = same_answer second now s t alike follow.0 call.confounder (request_of call.octets) in
    let later : answers after_call (after_call s call) events ≡ answers after_keeping (after_keeping t call) events =
    all_same high (after_call s call) (after_keeping t call) events next (follow_on second now events follow.1 steady.0) steady.1 in
    λ i. here i ∷ later i
all_same second s t (AcceptFor name call ∷ events) alike follow steady =
    let now : ℤ = call.at.sec in
    let b : Bool = is_for_another name (request_of call.octets) in
    let high : ℤ = int_max second (floor_for now) in
    let next : Alike high (after_named after_call name s call) (after_named after_keeping name t call) = alike_named second s t call alike follow.0 b in
    let here : (accepts_for name s call.at call.confounder call.octets).answer ≡ (accepts_for name t call.at call.confounder call.octets).answer = same_named second s t call alike follow.0 b in
    let later : answers after_call (after_named after_call name s call) events ≡ answers after_keeping (after_named after_keeping name t call) events =
    all_same high (after_named after_call name s call) (after_named after_keeping name t call) events next (follow_on second now events follow.1 steady.0) steady.1 in
    λ i. here i ∷ later i
all_same second s t (Replace keytab ∷ events) alike follow steady =
    all_same second (with_keytab s keytab) (with_keytab t keytab) events (alike_with second s t keytab alike) follow.1 steady
all_same second s t (Resume keytab options ∷ events) alike follow steady =
    all_same second (renewed s keytab options) (renewed t keytab options) events (alike_renewed second s t keytab options alike) follow.1 steady

an_hour_before : (now at : ℤ) → (now -ℤ pos hour) ≤ℤ at → floor_for now ≤ℤ (at -ℤ pos skew)
an_hour_before now at le = omega (arith, ints)

first_itself : (now : ℤ) → floor_for now ≤ℤ (now -ℤ pos skew)
first_itself now = omega (arith, ints)

follow_first : (now : ℤ) (events : List Event) → AllByRecursion (IsFrom (now -ℤ pos hour)) events → Follow (floor_for now) events
follow_first now [] steady = tt
follow_first now (Accept call ∷ events) steady = (an_hour_before now call.at.sec steady.0, follow_first now events steady.1)
follow_first now (AcceptFor name call ∷ events) steady = (an_hour_before now call.at.sec steady.0, follow_first now events steady.1)
follow_first now (Replace keytab ∷ events) steady = (tt, follow_first now events steady.1)
follow_first now (Resume keytab options ∷ events) steady = (tt, follow_first now events steady.1)

pub drops_unseen : DropsUnseen
drops_unseen state [] steady = refl
drops_unseen state (Accept call ∷ events) steady =
    all_same (floor_for call.at.sec) state state (Accept call ∷ events) (record { keytab = refl; options = refl; caches = λ service client. refl })
    (first_itself call.at.sec, follow_first call.at.sec events steady.0) steady
drops_unseen state (AcceptFor name call ∷ events) steady =
    all_same (floor_for call.at.sec) state state (AcceptFor name call ∷ events) (record { keytab = refl; options = refl; caches = λ service client. refl })
    (first_itself call.at.sec, follow_first call.at.sec events steady.0) steady
drops_unseen state (Replace keytab ∷ events) steady = drops_unseen (with_keytab state keytab) events steady
drops_unseen state (Resume keytab options ∷ events) steady = drops_unseen (renewed state keytab options) events steady
