-- Events of one client get the same replies, whatever others send, and wherever the caches are tidied.
use Rattle.std.proofs.Common.{◌≡◌, ℕ, Bool, true, false, if◌then◌else◌, IsTrue, IfSome, List, [], ◌∷◌, Option, Some, None, refl, sym, ap, subst, ◌∙◌}
use Rattle.std.specs.Prelude.{⊤, nat_eq}
use Rattle.std.specs.Cmp.Lexicographic.{pointwise}
use Rattle.std.specs.FinMap as map
use Rattle.krb_fields.specs.Name.{Components}
use Rattle.principals.specs.Change.{changed, refusal}
use Rattle.principals.specs.Database.{Principals}
use Rattle.krb_fields.specs.Granting.{tgs_principal}
use Rattle.principals.specs.declared.change.Change.{Change as PrincipalChange}
use Rattle.principals.specs.declared.change.ChangeFault.{ChangeFault}
use Rattle.kdc_state.specs.State.{tidied_state}
use Rattle.kdc_state.specs.declared.state.State.{State}
use Rattle.kdc_core.proofs.Frame.{database_kept}
use Rattle.kdc_core.proofs.Isolation.{agrees_at, agrees_itself, alike_itself, event_left, event_struck, is_named, isolation, still_granted}
use Rattle.kdc_core.proofs.Unseen.{tidies_unseen}
use Rattle.kdc_core.specs.AgreementLaws.{names_agree, same_names}
use Rattle.kdc_core.specs.Answer.{answer}
use Rattle.kdc_core.specs.Request.{request_of}
use Rattle.kdc_core.specs.Run.{after_change, after_event, replaced, unless_faulty}
use Rattle.kdc_core.specs.Struck.{AgreesFor, Names, NamesWithin, ServicesWithin, is_client, is_left, is_request, is_clients_request, replies_to, strike}
use Rattle.kdc_core.specs.Unaffected.{AreAlike}
use Rattle.kdc_core.specs.Unseen.{untidied}
use Rattle.kdc_core.specs.View.{named, asked_names, row_of, view}
use Rattle.kdc_core.specs.declared.run.Event.{Event as KdcEvent}
use Rattle.kdc_core.specs.declared.run.Event.TheVariants.{Request, Change, Replace, Tidy, Restart, Reopen, Resume}
use Rattle.kdc_hub.specs.History.{chosen, events_in}
use Rattle.kdc_hub.specs.Moved.{MovesNothingElse, concerning}
use Rattle.kdc_hub.proofs.Histories.{chosen_of_run, one_run}

-- ---- states with one database

row_same : (state other : State) → other.database ≡ state.database → (o : Option Components) → row_of other o ≡ row_of state o
row_same state other same (Some name) = ap (λ (d : Principals). map.get d.rows name) same
row_same state other same None = refl

named_same : (state other : State) → other.database ≡ state.database → (bytes : List ℕ) → named other bytes ≡ named state bytes
named_same state other same bytes =
    same_names state other (ap (λ (d : Principals). d.realm) same) (ap (λ (d : Principals). map.get d.rows (tgs_principal d.realm)) same) (request_of bytes)
    (row_same state other same (asked_names state (request_of bytes)).service)

change_same : (state other : State) → other.database ≡ state.database → (change : PrincipalChange)
    → (after_change other change).database ≡ (after_change state change).database
change_same state other same change =
    by_fault other (refusal other.database change)
    ∙ (ap (λ (d : Principals). database_by d (refusal d change)) same ∙ sym (by_fault state (refusal state.database change)))
  where
    database_by : Principals → Option ChangeFault → Principals
    database_by d (Some fault) = d
    database_by d None = changed d change

    by_fault : (s : State) (fault : Option ChangeFault)
        → (unless_faulty fault s (record s { database = changed s.database change })).database ≡ database_by s.database fault
    by_fault s (Some fault) = refl
    by_fault s None = refl

replaced_same : (state other : State) → other.database ≡ state.database → (database : Principals)
    → (replaced other database).database ≡ (replaced state database).database
replaced_same state other same database =
    by_test other (pointwise nat_eq database.realm other.database.realm)
    ∙ (ap (λ (d : Principals). database_if d (pointwise nat_eq database.realm d.realm)) same
    ∙ sym (by_test state (pointwise nat_eq database.realm state.database.realm)))
  where
    database_if : Principals → Bool → Principals
    database_if d true = database
    database_if d false = d

    by_test : (s : State) (b : Bool) → (if b then record s { database = database } else s).database ≡ database_if s.database b
    by_test s true = refl
    by_test s false = refl

same_after : (state other : State) → other.database ≡ state.database → (event : KdcEvent)
    → (after_event other event).database ≡ (after_event state event).database
same_after state other same (Request at random room request) =
    database_kept other (named other request).client (answer (view other request) at random room request).kept
    ∙ (same ∙ sym (database_kept state (named state request).client (answer (view state request) at random room request).kept))
same_after state other same (Change change) = change_same state other same change
same_after state other same (Replace database) = replaced_same state other same database
same_after state other same (Tidy at) = same
same_after state other same (Restart at) = same
same_after state other same (Reopen database limits at) = refl
same_after state other same (Resume database limits resumption) = refl

module _ (c : Components) (S : Names) where
  -- each event stays for c at its place, and names services of S alone
  abbrev AllLeft : State → List KdcEvent → Type 0
  AllLeft state [] = ⊤
  AllLeft state (event ∷ events) =
      (is_left c S state event ≡ true) × NamesWithin c S state event × AllLeft (after_event state event) events

  abbrev StaysIn : State → KdcEvent → Type 0
  StaysIn state event = (is_left c S state event ≡ true) × NamesWithin c S state event

  -- ---- what stays, stays in a state that agrees for c

  left_in : (state other : State) (event : KdcEvent) → IsTrue (S (tgs_principal state.database.realm)) → NamesWithin c S state event
      → AgreesFor c S state other → is_left c S state event ≡ true → StaysIn other event
  left_in state other (Request at random room octets) tgs within a left =
      let named_c = is_named c (named state octets).client left in
      let agrees = agrees_at c S state other (record { at = at; random = random; room = room; octets = octets }) a tgs named_c (within left) in
      let same : named other octets ≡ named state octets = names_agree state other octets agrees in (
        ap (λ n. is_client c n.client) same ∙ left,
        λ own. subst (λ n. IfSome n.service (λ service. IsTrue (S service))) (sym same) (within left),
      )
  left_in state other (Change change) tgs within a left = (left, tt)
  left_in state other (Replace database) tgs within a left = (refl, tt)
  left_in state other (Tidy at) tgs within a left = (refl, tt)
  left_in state other (Restart at) tgs within a left = (refl, tt)
  left_in state other (Reopen database limits at) tgs within a left = (refl, within)
  left_in state other (Resume database limits resumption) tgs within a left = (refl, within)

  struck_left : (events : List KdcEvent) (state other : State) → IsTrue (S (tgs_principal state.database.realm))
      → ServicesWithin c S state events → AgreesFor c S state other → AllLeft other (strike c S state events)
  struck_left [] state other tgs within a = tt
  struck_left (event ∷ events) state other tgs within a =
      by_test (λ t agrees. struck_left events (after_event state event) t (still_granted c S state event within.0 tgs) within.1 agrees)
      (is_left c S state event) refl
    where
      by_test : ((t : State) → AgreesFor c S (after_event state event) t → AllLeft t (strike c S (after_event state event) events))
          → (b : Bool) → is_left c S state event ≡ b
          → AllLeft other (if b then event ∷ strike c S (after_event state event) events else strike c S (after_event state event) events)
      by_test later true left =
          let stays = left_in state other event tgs within.0 a left in
          let at = event_left c S state other event event tgs within.0 a left (alike_itself c S event) in
          (stays.0, stays.1, later (after_event other event) at.agrees)
      by_test later false struck = later other (event_struck c S state other event a struck).1

  -- ---- and without the tidyings

  stays_same : (state other : State) → other.database ≡ state.database → (event : KdcEvent) → StaysIn state event → StaysIn other event
  stays_same state other same (Request at random room octets) stays =
      let names = named_same state other same octets in (
        ap (λ n. is_client c n.client) names ∙ stays.0,
        λ own. subst (λ n. IfSome n.service (λ service. IsTrue (S service))) (sym names) (stays.1 stays.0),
      )
  stays_same state other same (Change change) stays = (stays.0, tt)
  stays_same state other same (Replace database) stays = (refl, tt)
  stays_same state other same (Tidy at) stays = (refl, tt)
  stays_same state other same (Restart at) stays = (refl, tt)
  stays_same state other same (Reopen database limits at) stays = (refl, stays.1)
  stays_same state other same (Resume database limits resumption) stays = (refl, stays.1)

  untidied_left : (events : List KdcEvent) (state other : State) → other.database ≡ state.database → AllLeft state events
      → AllLeft other (untidied events)
  untidied_left [] state other same left = tt
  untidied_left (Request at random room request ∷ events) state other same left =
      on (Request at random room request) state other same (left.0, left.1) (untidied events)
      (untidied_left events _ _ (same_after state other same (Request at random room request)) left.2)
    where
      on : (event : KdcEvent) (state other : State) → other.database ≡ state.database → StaysIn state event → (rest : List KdcEvent)
          → AllLeft (after_event other event) rest → AllLeft other (event ∷ rest)
      on event state other same stays rest others = let here = stays_same state other same event stays in (here.0, here.1, others)
  untidied_left (Change change ∷ events) state other same left =
      (left.0, tt, untidied_left events _ _ (same_after state other same (Change change)) left.2)
  untidied_left (Replace database ∷ events) state other same left =
      (refl, tt, untidied_left events _ _ (same_after state other same (Replace database)) left.2)
  untidied_left (Tidy at ∷ events) state other same left = untidied_left events (tidied_state state at) other same left.2
  untidied_left (Restart at ∷ events) state other same left =
      (refl, tt, untidied_left events _ _ (same_after state other same (Restart at)) left.2)
  untidied_left (Reopen database limits at ∷ events) state other same left =
      (refl, left.1, untidied_left events _ _ (same_after state other same (Reopen database limits at)) left.2)
  untidied_left (Resume database limits resumption ∷ events) state other same left =
      (refl, left.1, untidied_left events _ _ (same_after state other same (Resume database limits resumption)) left.2)

  -- ---- what stays gets the same replies

  own_request : (state : State) (event : KdcEvent) → is_left c S state event ≡ true → is_clients_request c state event ≡ is_request state event
  own_request state (Request at random room request) left = left
  own_request state (Change change) left = refl
  own_request state (Replace database) left = refl
  own_request state (Tidy at) left = refl
  own_request state (Restart at) left = refl
  own_request state (Reopen database limits at) left = refl
  own_request state (Resume database limits resumption) left = refl

  same_replies : (events others : List KdcEvent) (state other : State) → IsTrue (S (tgs_principal state.database.realm)) → AllLeft state events
      → AgreesFor c S state other → AreAlike c S events others → replies_to is_request other others ≡ replies_to is_request state events
  same_replies [] [] state other tgs left a alike = refl
  same_replies [] (given ∷ others) state other tgs left a alike = absurd alike
  same_replies (event ∷ events) [] state other tgs left a alike = absurd alike
  same_replies (event ∷ events) (given ∷ others) state other tgs left a alike =
      let at = event_left c S state other event given tgs left.1 a left.0 alike.0 in
      let own : is_request other given ≡ is_request state event = at.is_own ∙ own_request state event left.0 in
      let rest = same_replies events others (after_event state event) (after_event other given) (still_granted c S state event left.1 tgs) left.2 at.agrees alike.1 in
      λ i. if own i then at.reply i ∷ rest i else rest i

pub moves_nothing_else : MovesNothingElse
moves_nothing_else start turns other others c S tgs within within_other a follow follow_other alike =
    let k = start.issuing.kdc in
    let l = other.issuing.kdc in
    let here = events_in start turns in
    let there = events_in other others in
    let granted : IsTrue (S (tgs_principal l.database.realm)) = subst (λ realm. IsTrue (S (tgs_principal realm))) (sym a.realm) tgs in
    let mine = (isolation k here c S k tgs within (agrees_itself c S k)).own in
    let theirs = (isolation l there c S l granted within_other (agrees_itself c S l)).own in
    let left = untidied_left c S (concerning c S start turns) k k refl (struck_left c S here k k tgs within (agrees_itself c S k)) in
    let same = same_replies c S (untidied (concerning c S start turns)) (untidied (concerning c S other others)) k l tgs left a alike in
    ap (chosen (is_clients_request c) l there) (one_run other others).replies_are
    ∙ (chosen_of_run (is_clients_request c) l there
    ∙ (sym theirs
    ∙ (tidies_unseen l (concerning c S other others) follow_other
    ∙ (same
    ∙ (sym (tidies_unseen k (concerning c S start turns) follow)
    ∙ (mine
    ∙ (sym (chosen_of_run (is_clients_request c) k here)
    ∙ ap (chosen (is_clients_request c) k here) (sym (one_run start turns).replies_are))))))))
