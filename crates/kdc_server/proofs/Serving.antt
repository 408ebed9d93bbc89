-- What a server's sockets, its journal and its log have recorded stays what its tally says, by each poll and each act.
use Rattle.std.proofs.Common.{◌≡◌, true, false, List, [], ◌∷◌, ◌++◌, map, Option, Some, None, Result, Ok, Err, refl, sym, ap, subst, ◌∙◌, append_assoc}
use Rattle.std.specs.Prelude.{ℕ, Bool, IfSome, not}
use Rattle.std.specs.declared.net.socket_addr.SocketAddr.{SocketAddr}
use Rattle.std.specs.Result.{is_ok}
use Rattle.std.proofs.lemmas.List.{append-nil, map-append}
use Rattle.std.proofs.lemmas.List.Elements.{filter-append}
use Rattle.krb_fields.specs.declared.moment.Moment.{Moment}
use Rattle.kdc_core.specs.Audit.{AuditRecord}
use Rattle.kdc_hub.specs.declared.event.Action.{Action}
use Rattle.kdc_hub.specs.declared.event.Event.{Event}
use Rattle.kdc_hub.specs.declared.wires.WireCall.{WireCall}
use Rattle.kdc_hub.specs.declared.wires.WireCall.TheVariants.{Acted, Failed, Missed, Polled, Waited}
use Rattle.kdc_hub.specs.declared.wires.WireFault.{WireFault}
use Rattle.kdc_hub.specs.Wire.{Records, acted, is_fault, polled}
use Rattle.kdc_hub.proofs.Rounds.{records_nothing, records_on}
use Rattle.kdc_files.specs.Journal.{Handed, handed_by}
use Rattle.request_log.specs.Entry.{LogEntry}
use Rattle.kdc_reports.specs.Log.{LogsAll, arrival_after, asker_of, entries_of, moment_after, reported}
use Rattle.kdc_files.specs.Recorded.{IsNew}
use Rattle.kdc_server.specs.Served.{HasServed, Serves, handed_in, handed_of, in_order, last_came, said, said_of, says, succeeded}
use Rattle.kdc_server.specs.Withheld.{EndsOnly}
use Rattle.kdc_reports.specs.declared.logging.Arrival.{Arrival}

succeeded_on : (xs ys : List WireCall) → succeeded (xs ++ ys) ≡ succeeded xs ++ succeeded ys
succeeded_on xs ys = filter-append (λ d. not (is_fault d)) xs ys

in_order_on : {X : Type 0} (each : Moment → WireCall → List X) (at : Moment) (tried : List WireCall) (did : WireCall)
    → in_order each at (tried ++ did ∷ []) ≡ in_order each at tried ++ each (last_came at tried) did
in_order_on each at [] did = append-nil (each at did)
in_order_on each at (x ∷ tried) did =
    ap (λ l. each at x ++ l) (in_order_on each (moment_after at x) tried did)
    ∙ sym (append_assoc (each at x) (in_order each (moment_after at x) tried) (each (last_came (moment_after at x) tried) did))

last_on : (at : Moment) (tried : List WireCall) (did : WireCall) → last_came at (tried ++ did ∷ []) ≡ moment_after (last_came at tried) did
last_on at [] did = refl
last_on at (x ∷ tried) did = last_on (moment_after at x) tried did

-- ---- one more thing

-- the record of the sockets, where they did the same, and where they did nothing and it failed
same_sent : (tried : List WireCall) (did : WireCall) (sockets new : Option (List WireCall)) → Records sockets (did ∷ []) new
    → IfSome sockets (λ sent. succeeded sent ≡ succeeded tried) → IfSome new (λ sent. succeeded sent ≡ succeeded (tried ++ did ∷ []))
same_sent tried did sockets None records is = tt
same_sent tried did None (Some new) records is = absurd records
same_sent tried did (Some sent) (Some new) records is =
    ap succeeded records ∙ succeeded_on sent (did ∷ []) ∙ ap (λ l. l ++ succeeded (did ∷ [])) is ∙ sym (succeeded_on tried (did ∷ []))

none_sent : (tried : List WireCall) (action : Action) (sockets : Option (List WireCall))
    → IfSome sockets (λ sent. succeeded sent ≡ succeeded tried) → IfSome sockets (λ sent. succeeded sent ≡ succeeded (tried ++ Failed action ∷ []))
none_sent tried action None is = tt
none_sent tried action (Some sent) is = is ∙ sym (append-nil (succeeded tried)) ∙ sym (succeeded_on tried (Failed action ∷ []))

-- a record of what comes in order, as it is shown
module _ {X Y : Type 0} (show : X → Y) (each : Moment → WireCall → List Y) (start at : Moment) (tried : List WireCall) (did : WireCall) (last : at ≡ last_came start tried) where
  more_in_order : (old new : Option (List X)) (added : List X) → map show added ≡ each at did → Records old added new
      → IfSome old (λ xs. map show xs ≡ in_order each start tried) → IfSome new (λ xs. map show xs ≡ in_order each start (tried ++ did ∷ []))
  more_in_order old None added shown records is = tt
  more_in_order None (Some new) added shown records is = absurd records
  more_in_order (Some xs) (Some new) added shown records is =
      ap (map show) records ∙ map-append show xs added ∙ ap (λ l. l ++ map show added) is ∙ ap (λ l. in_order each start tried ++ l) shown
      ∙ ap (λ t. in_order each start tried ++ each t did) last ∙ sym (in_order_on each start tried did)

map_same : {X : Type 0} (xs : List X) → map (λ x. x) xs ≡ xs
map_same [] = refl
map_same (x ∷ xs) = ap (λ l. x ∷ l) (map_same xs)

as_is : {X : Type 0} (o : Option (List X)) (l : List X) → IfSome o (λ xs. xs ≡ l) → IfSome o (λ xs. map (λ x. x) xs ≡ l)
as_is None l is = tt
as_is (Some xs) l is = map_same xs ∙ is

back : {X : Type 0} (o : Option (List X)) (l : List X) → IfSome o (λ xs. map (λ x. x) xs ≡ l) → IfSome o (λ xs. xs ≡ l)
back None l is = tt
back (Some xs) l is = sym (map_same xs) ∙ is

module _ (did : WireCall) (sockets sockets_new : Option (List WireCall)) (journal journal_new : Option (List Handed)) (log log_new : Option (List LogEntry)) (at at_new : Moment)
    (sends : (tried : List WireCall) → IfSome sockets (λ sent. succeeded sent ≡ succeeded tried) → IfSome sockets_new (λ sent. succeeded sent ≡ succeeded (tried ++ did ∷ [])))
    (hands : Records journal (handed_of at did) journal_new) (added : List LogEntry) (shown : map said added ≡ said_of at did) (logs : Records log added log_new)
    (comes : at_new ≡ moment_after at did) where
  served_more : (tried : List WireCall) → HasServed tried sockets journal log at → HasServed (tried ++ did ∷ []) sockets_new journal_new log_new at_new
  served_more tried s = record {
    start = s.start;
    last = comes ∙ ap (λ t. moment_after t did) s.last ∙ sym (last_on s.start tried did);
    sent = sends tried s.sent;
    handed = back journal_new (handed_in s.start (tried ++ did ∷ []))
        (more_in_order (λ h. h) handed_of s.start at tried did s.last journal journal_new (handed_of at did) (map_same (handed_of at did)) hands
        (as_is journal (handed_in s.start tried) s.handed));
    entries = more_in_order said said_of s.start at tried did s.last log log_new added shown logs s.entries;
  }

  one_more : (tally tally_new : Option (List WireCall)) → Records tally (did ∷ []) tally_new
      → Serves tally sockets journal log at → Serves tally_new sockets_new journal_new log_new at_new
  one_more tally None records s = tt
  one_more None (Some new) records s = absurd records
  one_more (Some tried) (Some new) records s = subst (λ l. HasServed l sockets_new journal_new log_new at_new) (sym records) (served_more tried s)

-- where an action was withheld, the record of the sockets is as it was
pub ends_record : {S : Type 0} (recorded : S → Option (List WireCall)) (HangsUp : S → ℕ → S → Type 0)
    (keeps : (old new : S) (conn : ℕ) → HangsUp old conn new → recorded new ≡ recorded old)
    (old new : S) (conn : Option ℕ) → EndsOnly HangsUp old conn new → recorded new ≡ recorded old
ends_record recorded HangsUp keeps old new None is = ap recorded is
ends_record recorded HangsUp keeps old new (Some conn) is = keeps old new conn is

-- ---- polls

-- when the last event came
pub arrived_at : (peer_of : ℕ → Option SocketAddr) (came : Arrival) (did : WireCall)
    → (arrival_after peer_of came did).at ≡ moment_after came.at did
arrived_at peer_of came (Polled at event) = refl
arrived_at peer_of came (Waited at) = refl
arrived_at peer_of came Missed = refl
arrived_at peer_of came (Acted action) = refl
arrived_at peer_of came (Failed action) = refl

polls_hand_nothing : (at : Moment) (r : Result (Moment × Option Event) WireFault) → [] ≡ handed_of at (polled r)
polls_hand_nothing at (Ok (came, Some event)) = refl
polls_hand_nothing at (Ok (came, None)) = refl
polls_hand_nothing at (Err fault) = refl

polls_say_nothing : (at : Moment) (r : Result (Moment × Option Event) WireFault) → [] ≡ said_of at (polled r)
polls_say_nothing at (Ok (came, Some event)) = refl
polls_say_nothing at (Ok (came, None)) = refl
polls_say_nothing at (Err fault) = refl

pub by_poll : (r : Result (Moment × Option Event) WireFault) (tally tally_new sockets sockets_new : Option (List WireCall)) (journal : Option (List Handed)) (log : Option (List LogEntry)) (at at_new : Moment)
    → Records tally (polled r ∷ []) tally_new → Records sockets (polled r ∷ []) sockets_new → at_new ≡ moment_after at (polled r)
    → Serves tally sockets journal log at → Serves tally_new sockets_new journal log at_new
by_poll r tally tally_new sockets sockets_new journal log at at_new noted polls comes =
    one_more (polled r) sockets sockets_new journal journal log log at at_new (λ tried. same_sent tried (polled r) sockets sockets_new polls)
    (subst (λ l. Records journal l journal) (polls_hand_nothing at r) (records_nothing journal)) [] (polls_say_nothing at r) (records_nothing log) comes tally tally_new noted

-- ---- acts

shown_said : (at : Moment) (is_sent : Bool) (came : Arrival) (action : Action) → came.at ≡ at → map said (entries_of came action is_sent) ≡ says at is_sent (reported action)
shown_said at is_sent came action is = each (reported action) ∙ ap (λ t. says t is_sent (reported action)) is
  where
    each : (audits : List (Option AuditRecord))
        → map said (map (λ audit. record { at = came.at; asker = asker_of came.source action; audit = audit; is_sent = is_sent }) audits) ≡ says came.at is_sent audits
    each [] = refl
    each (audit ∷ audits) = ap (λ l. record { at = came.at; audit = audit; is_sent = is_sent } ∷ l) (each audits)

-- by entries written one after another a log's record grows by them
module _ {L : Type 0} (logged : L → Option (List LogEntry)) (Logs : L → LogEntry → L → Type 0)
    (grows : (log : L) (entry : LogEntry) (new : L) → Logs log entry new → Records (logged log) (entry ∷ []) (logged new)) where
  pub logs_all : (log new : L) (entries : List LogEntry) → LogsAll Logs log entries new → Records (logged log) entries (logged new)
  logs_all log new [] is = subst (λ l. Records (logged log) [] (logged l)) (sym is) (records_nothing (logged log))
  logs_all log new (entry ∷ entries) (middle, first, rest) =
      records_on (logged log) (entry ∷ []) (logged middle) entries (logged new) (grows log entry middle first) (logs_all middle new entries rest)

module _ (action : Action) (came : Arrival) (tally tally_new sockets sockets_new : Option (List WireCall)) (journal journal_new : Option (List Handed)) (log log_new : Option (List LogEntry))
    (hands : Records journal (handed_by came.at action) journal_new) (s : Serves tally sockets journal log came.at) where
  pub by_act : {T : Type 0} (r : Result T WireFault) (may : Bool) (is_sent : Bool) → is_sent ≡ is_ok r → Records tally (acted action r ∷ []) tally_new
      → (may ≡ true → Records sockets (acted action r ∷ []) sockets_new) → (may ≡ false → (sockets_new ≡ sockets) × (is_ok r ≡ false))
      → Records log (entries_of came action is_sent) log_new
      → Serves tally_new sockets_new journal_new log_new came.at
  by_act (Ok done) true is_sent sent noted sends withholds logs =
      one_more (Acted action) sockets sockets_new journal journal_new log log_new came.at came.at (λ tried. same_sent tried (Acted action) sockets sockets_new (sends refl)) hands
      (entries_of came action is_sent) (shown_said came.at is_sent came action refl ∙ ap (λ b. says came.at b (reported action)) sent) logs refl tally tally_new noted s
  by_act (Ok done) false is_sent sent noted sends withholds logs = absurd (cc (withholds refl).1)
  by_act (Err fault) true is_sent sent noted sends withholds logs =
      one_more (Failed action) sockets sockets_new journal journal_new log log_new came.at came.at (λ tried. same_sent tried (Failed action) sockets sockets_new (sends refl)) hands
      (entries_of came action is_sent) (shown_said came.at is_sent came action refl ∙ ap (λ b. says came.at b (reported action)) sent) logs refl tally tally_new noted s
  by_act (Err fault) false is_sent sent noted sends withholds logs =
      one_more (Failed action) sockets sockets_new journal journal_new log log_new came.at came.at
      (λ tried is. subst (λ n. IfSome n (λ sent. succeeded sent ≡ succeeded (tried ++ Failed action ∷ []))) (sym (withholds refl).0) (none_sent tried action sockets is)) hands
      (entries_of came action is_sent) (shown_said came.at is_sent came action refl ∙ ap (λ b. says came.at b (reported action)) sent) logs refl tally tally_new noted s

-- ---- the beginning

pub new_serves : (tally sockets : Option (List WireCall)) (journal : Option (List Handed)) (log : Option (List LogEntry)) (at : Moment)
    → IsNew tally → IsNew sockets → IsNew journal → IsNew log → Serves tally sockets journal log at
new_serves None sockets journal log at new_tally new_sockets new_journal new_log = tt
new_serves (Some tried) sockets journal log at new_tally new_sockets new_journal new_log = record {
  start = at;
  last = ap (last_came at) (sym new_tally);
  sent = sent_new sockets new_sockets;
  handed = handed_new journal new_journal;
  entries = entries_new log new_log;
}
  where
    sent_new : (o : Option (List WireCall)) → IsNew o → IfSome o (λ sent. succeeded sent ≡ succeeded tried)
    sent_new None is = tt
    sent_new (Some sent) is = ap succeeded (is ∙ sym new_tally)

    handed_new : (o : Option (List Handed)) → IsNew o → IfSome o (λ handed. handed ≡ handed_in at tried)
    handed_new None is = tt
    handed_new (Some handed) is = is ∙ ap (handed_in at) (sym new_tally)

    entries_new : (o : Option (List LogEntry)) → IsNew o → IfSome o (λ entries. map said entries ≡ in_order said_of at tried)
    entries_new None is = tt
    entries_new (Some entries) is = ap (map said) is ∙ ap (in_order said_of at) (sym new_tally)
