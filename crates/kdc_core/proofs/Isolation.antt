-- The events that concern one client get it the same replies, from any state that agrees for it.
use Rattle.std.proofs.Common.{◌≡◌, ◌≢◌, ℕ, Bool, true, false, cond, ◌||◌, if◌then◌else◌, IsTrue, IfSome, ◌⊎◌, inl, inr, List, [], ◌∷◌, Option, Some, None, is_eq, refl, ap, sym, subst, ◌∙◌}
use Rattle.std.specs.Prelude.{nat_eq}
use Rattle.std.specs.Cmp.{tied_itself}
use Rattle.std.specs.Cmp.Lexicographic.{pointwise, same_text}
use Rattle.std.specs.FinMap as map
use Rattle.std.specs.FinMap.{get-insert, get-empty}
use Rattle.std.specs.Option.{unwrap_or}
use Rattle.std.specs.Ordering.{eq_by_cmp}
use Rattle.kdc_replies.specs.Incoming.{Incoming}
use Rattle.krb_fields.specs.Name.{Components, name_cmp, name_total, same_name}
use Rattle.krb_fields.specs.declared.moment.Moment.{Moment}
use Rattle.principals.specs.Change.{changed, refusal}
use Rattle.principals.specs.Database.{Principals}
use Rattle.krb_fields.specs.Granting.{tgs_principal}
use Rattle.principals.specs.declared.change.Change.{Change as PrincipalChange}
use Rattle.principals.specs.declared.change.ChangeFault.{ChangeFault}
use Rattle.replay.specs.declared.keep.Kept.{Kept}
use Rattle.replay.specs.declared.cache.ReplayCache.{ReplayCache}
use Rattle.replay.specs.Opening.{opening_floor}
use Rattle.replay.specs.Tidied.{empty_cache, tidied}
use Rattle.principal_rows.specs.declared.limits.Limits.{Limits}
use Rattle.replay.specs.Resumed.{resumed_cache}
use Rattle.replay.specs.declared.seen.Resumption.{Resumption}
use Rattle.kdc_state.proofs.CachesSeen.{database_resumed, limits_resumed, cache_resumed}
use Rattle.kdc_state.proofs.Tidied.{cache_tidied}
use Rattle.kdc_state.specs.Resumed.{resumed_state}
use Rattle.kdc_state.specs.State.{cache_of, restarted, tidied_state}
use Rattle.replay.specs.declared.opening.Opening.TheVariants.{Restart as Restarted}
use Rattle.kdc_state.specs.declared.state.State.{State}
use Rattle.kdc_core.proofs.Changes.{other_row, realm_stays, same_refusal, same_row_after}
use Rattle.kdc_core.proofs.Frame.{database_kept, limits_kept, other_kept}
use Rattle.kdc_core.specs.AgreementLaws.{names_agree, view_agrees}
use Rattle.kdc_core.specs.Answer.{answer, incoming_answer, keep, after_incoming}
use Rattle.kdc_core.specs.Run.{after_change, after_event, event_reply, replaced, run, unless_faulty}
use Rattle.kdc_core.specs.Struck.{AgreesFor, IsIsolated, Isolation, Names, NamesWithin, ServicesWithin, is_client, is_left, is_request, is_clients_request, replies_to, strike}
use Rattle.kdc_core.specs.Unaffected.{AreAlike, HasSameRows, IsAlike, Unaffected}
use Rattle.kdc_core.specs.View.{Agrees, named, view}
use Rattle.kdc_core.specs.declared.run.Event.{Event}
use Rattle.kdc_core.specs.declared.run.Event.TheVariants.{Request, Change, Replace, Tidy, Restart, Reopen, Resume}

-- ---- names

pub is_named : (c : Components) (o : Option Components) → is_client c o ≡ true → o ≡ Some c
is_named c (Some name) e = ap Some (sym (same_name c name e))
is_named c None e = absurd cc

itself : (c : Components) → eq_by_cmp name_cmp c c ≡ true
itself c = ap is_eq (tied_itself name_total c)

is_not_named : (c : Components) (o : Option Components) → is_client c o ≡ false → o ≢ Some c
is_not_named c o e q =
    let same : is_client c o ≡ true = ap (is_client c) q ∙ itself c in
    absurd cc

either : (a b : Bool) → (a || b) ≡ true → (a ≡ true) ⊎ (b ≡ true)
either true b e = inl refl
either false b e = inr e

neither : (a b : Bool) → (a || b) ≡ false → (a ≡ false) × (b ≡ false)
neither true b e = absurd cc
neither false b e = (refl, e)

not_both : (b : Bool) → b ≡ true → b ≡ false → ⊥
not_both b t f = cc

-- ---- caches

cache_kept : (state : State) (c : Components) (m : Option (ReplayCache Kept)) → cache_of (keep state (Some c) m) c ≡ unwrap_or m (cache_of state c)
cache_kept state c (Some m) =
    ap (λ o. unwrap_or o (empty_cache state.floor)) (get-insert name_total state.caches c m c ∙ ap (λ b. cond b (Some m) (map.get state.caches c)) (itself c))
cache_kept state c None = refl

cache_restarted : (state : State) (at : Moment) (c : Components) → cache_of (restarted state at) c ≡ empty_cache (opening_floor (Restarted at))
cache_restarted state at c = ap (λ o. unwrap_or o (empty_cache (opening_floor (Restarted at)))) (get-empty name_cmp c)

module _ (c : Components) (S : Names) where
  -- ---- requests

  -- whatever both sides store, if c's cache is then the same
  kept_agrees : (state other : State) → AgreesFor c S state other → (n o : Option Components) (m k : Option (ReplayCache Kept)) → cache_of (keep other o k) c ≡ cache_of (keep state n m) c
      → AgreesFor c S (keep state n m) (keep other o k)
  kept_agrees state other a n o m k same = record {
    realm = ap (λ d. d.realm) (database_kept other o k) ∙ a.realm ∙ sym (ap (λ d. d.realm) (database_kept state n m));
    limits = limits_kept other o k ∙ a.limits ∙ sym (limits_kept state n m);
    row = ap (λ d. map.get d.rows c) (database_kept other o k) ∙ a.row ∙ sym (ap (λ d. map.get d.rows c) (database_kept state n m));
    cache = same;
    rows = λ name within. ap (λ d. map.get d.rows name) (database_kept other o k) ∙ a.rows name within ∙ sym (ap (λ d. map.get d.rows name) (database_kept state n m));
  }

  service_agrees : (state other : State) → AgreesFor c S state other → (o : Option Components) → IfSome o (λ service. IsTrue (S service)) → IfSome o (λ s. map.get other.database.rows s ≡ map.get state.database.rows s)
  service_agrees state other a (Some service) within = a.rows service within
  service_agrees state other a None within = tt

  module _ (state other : State) (incoming : Incoming) (a : AgreesFor c S state other) where
    -- a request of another client is struck out
    other_request : is_client c (named state incoming.octets).client ≡ false → AgreesFor c S (after_incoming state incoming) other
    other_request apart =
        let kept = (incoming_answer (view state incoming.octets) incoming).kept in
        kept_agrees state other a (named state incoming.octets).client None kept None (a.cache ∙ sym (other_kept state (named state incoming.octets).client kept c (is_not_named c (named state incoming.octets).client apart)))

    -- the states agree at what a request of c names
    pub agrees_at : IsTrue (S (tgs_principal state.database.realm)) → (named state incoming.octets).client ≡ Some c → IfSome (named state incoming.octets).service (λ service. IsTrue (S service)) → Agrees state other incoming.octets
    agrees_at tgs is within = record {
      realm = a.realm;
      limits = a.limits;
      tgs = a.rows (tgs_principal state.database.realm) tgs;
      client = subst (λ o. IfSome o (λ n. (map.get other.database.rows n ≡ map.get state.database.rows n) × (cache_of other n ≡ cache_of state n))) (sym is) (a.row, a.cache);
      service = service_agrees state other a (named state incoming.octets).service within;
    }

    own_cache : (named state incoming.octets).client ≡ Some c → Agrees state other incoming.octets → cache_of (after_incoming other incoming) c ≡ cache_of (after_incoming state incoming) c
    own_cache is agrees =
        let kept : (incoming_answer (view other incoming.octets) incoming).kept ≡ (incoming_answer (view state incoming.octets) incoming).kept = ap (λ v. (incoming_answer v incoming).kept) (view_agrees state other incoming.octets agrees) in
        let client : (named other incoming.octets).client ≡ Some c = ap (λ names. names.client) (names_agree state other incoming.octets agrees) ∙ is in
        ap (λ o. cache_of (keep other o (incoming_answer (view other incoming.octets) incoming).kept) c) client
        ∙ cache_kept other c (incoming_answer (view other incoming.octets) incoming).kept
        ∙ (λ i. unwrap_or (kept i) (a.cache i))
        ∙ sym (cache_kept state c (incoming_answer (view state incoming.octets) incoming).kept)
        ∙ sym (ap (λ o. cache_of (keep state o (incoming_answer (view state incoming.octets) incoming).kept) c) is)

    -- a request of c changes both in the same way
    own_request : (named state incoming.octets).client ≡ Some c → Agrees state other incoming.octets → AgreesFor c S (after_incoming state incoming) (after_incoming other incoming)
    own_request is agrees =
        kept_agrees state other a (named state incoming.octets).client (named other incoming.octets).client (incoming_answer (view state incoming.octets) incoming).kept (incoming_answer (view other incoming.octets) incoming).kept
        (own_cache is agrees)

    same_reply : Agrees state other incoming.octets → (incoming_answer (view other incoming.octets) incoming).reply ≡ (incoming_answer (view state incoming.octets) incoming).reply
    same_reply agrees = ap (λ v. (incoming_answer v incoming).reply) (view_agrees state other incoming.octets agrees)

  -- ---- changes

  module _ (state other : State) (change : PrincipalChange) (a : AgreesFor c S state other) where
    -- both have the same row for a name that is c or in S
    same_row : (eq_by_cmp name_cmp c change.name.components || S change.name.components) ≡ true → map.get other.database.rows change.name.components ≡ map.get state.database.rows change.name.components
    same_row left = elim (either (eq_by_cmp name_cmp c change.name.components) (S change.name.components) left) [
      | inl same ↦ subst (λ n. map.get other.database.rows n ≡ map.get state.database.rows n) (same_name c change.name.components same) a.row
      | inr within ↦ a.rows change.name.components within
    ]

    changed_alike : map.get other.database.rows change.name.components ≡ map.get state.database.rows change.name.components
        → AgreesFor c S (record state { database = changed state.database change }) (record other { database = changed other.database change })
    changed_alike own = record {
      realm = realm_stays other.database change ∙ a.realm ∙ sym (realm_stays state.database change);
      limits = a.limits;
      row = same_row_after state.database other.database change c own a.row;
      cache = a.cache;
      rows = λ name within. same_row_after state.database other.database change name own (a.rows name within);
    }

    alike_unless : (fault : Option ChangeFault) → map.get other.database.rows change.name.components ≡ map.get state.database.rows change.name.components
        → AgreesFor c S (unless_faulty fault state (record state { database = changed state.database change })) (unless_faulty fault other (record other { database = changed other.database change }))
    alike_unless (Some fault) own = a
    alike_unless None own = changed_alike own

    -- a change of such a name is refused in both or in neither, and changes both in the same way
    own_change : (eq_by_cmp name_cmp c change.name.components || S change.name.components) ≡ true → AgreesFor c S (after_change state change) (after_change other change)
    own_change left =
        let own = same_row left in
        let refused : refusal other.database change ≡ refusal state.database change = same_refusal state.database other.database change a.realm own in
        subst (λ fault. AgreesFor c S (after_change state change) (unless_faulty fault other (record other { database = changed other.database change }))) (sym refused)
        (alike_unless (refusal state.database change) own)

    apart_from : (name : Components) → IsTrue (S name) → S change.name.components ≡ false → eq_by_cmp name_cmp name change.name.components ≡ false
    apart_from name within without = by_test (eq_by_cmp name_cmp name change.name.components) refl
      where
        by_test : (b : Bool) → eq_by_cmp name_cmp name change.name.components ≡ b → b ≡ false
        by_test true same = absurd (not_both (S name) within (ap S (same_name name change.name.components same) ∙ without))
        by_test false apart = refl

    changed_elsewhere : eq_by_cmp name_cmp c change.name.components ≡ false → S change.name.components ≡ false → AgreesFor c S (record state { database = changed state.database change }) other
    changed_elsewhere apart without = record {
      realm = a.realm ∙ sym (realm_stays state.database change);
      limits = a.limits;
      row = a.row ∙ sym (other_row state.database change c apart);
      cache = a.cache;
      rows = λ name within. a.rows name within ∙ sym (other_row state.database change name (apart_from name within without));
    }

    elsewhere_unless : (fault : Option ChangeFault) → eq_by_cmp name_cmp c change.name.components ≡ false → S change.name.components ≡ false
        → AgreesFor c S (unless_faulty fault state (record state { database = changed state.database change })) other
    elsewhere_unless (Some fault) apart without = a
    elsewhere_unless None apart without = changed_elsewhere apart without

    -- a change of any other name is struck out
    other_change : (eq_by_cmp name_cmp c change.name.components || S change.name.components) ≡ false → AgreesFor c S (after_change state change) other
    other_change struck =
        let both = neither (eq_by_cmp name_cmp c change.name.components) (S change.name.components) struck in
        elsewhere_unless (refusal state.database change) both.0 both.1

  -- ---- replacements

  -- databases with the same rows for c and S replace both or neither
  both_replaced : (state other : State) (database new : Principals) → HasSameRows c S database new → AgreesFor c S state other → AgreesFor c S (replaced state database) (replaced other new)
  both_replaced state other database new same a =
      subst (λ realm. AgreesFor c S (replaced state database) (if pointwise nat_eq new.realm realm then record other { database = new } else other)) (sym a.realm)
      (subst (λ realm. AgreesFor c S (replaced state database) (if pointwise nat_eq realm state.database.realm then record other { database = new } else other)) (sym same.realm)
      (by_test (pointwise nat_eq database.realm state.database.realm)))
    where
      by_test : (b : Bool) → AgreesFor c S (if b then record state { database = database } else state) (if b then record other { database = new } else other)
      by_test true = record { realm = same.realm; limits = a.limits; row = same.row; cache = a.cache; rows = same.rows }
      by_test false = a

  realm_replaced : (state : State) (database : Principals) → (replaced state database).database.realm ≡ state.database.realm
  realm_replaced state database = by_test (pointwise nat_eq database.realm state.database.realm) refl
    where
      by_test : (b : Bool) → pointwise nat_eq database.realm state.database.realm ≡ b → (if b then record state { database = database } else state).database.realm ≡ state.database.realm
      by_test true same = same_text database.realm state.database.realm (sym same)
      by_test false other = refl

  -- ---- tidying

  both_tidied : (state other : State) (at : Moment) → AgreesFor c S state other → AgreesFor c S (tidied_state state at) (tidied_state other at)
  both_tidied state other at a = record {
    realm = a.realm;
    limits = a.limits;
    row = a.row;
    cache = cache_tidied other at c ∙ ap (λ m. tidied m at.sec) a.cache ∙ sym (cache_tidied state at c);
    rows = a.rows;
  }

  -- ---- restarts

  both_restart : (state other : State) (at : Moment) → AgreesFor c S state other → AgreesFor c S (restarted state at) (restarted other at)
  both_restart state other at a = record {
    realm = a.realm;
    limits = a.limits;
    row = a.row;
    cache = cache_restarted other at c ∙ sym (cache_restarted state at c);
    rows = a.rows;
  }

  -- ---- resuming

  -- with the same authenticators of c, and databases that have the same rows for c and S
  both_resumed : (database new : Principals) (limits : Limits) (r others : Resumption) → HasSameRows c S database new → resumed_cache others c ≡ resumed_cache r c
      → AgreesFor c S (resumed_state database limits r) (resumed_state new limits others)
  both_resumed database new limits r others same cache_is =
      let here = database_resumed database limits r in
      let there = database_resumed new limits others in
      record {
        realm = ap (λ (d : Principals). d.realm) there ∙ same.realm ∙ sym (ap (λ (d : Principals). d.realm) here);
        limits = limits_resumed new limits others ∙ sym (limits_resumed database limits r);
        row = ap (λ (d : Principals). map.get d.rows c) there ∙ same.row ∙ sym (ap (λ (d : Principals). map.get d.rows c) here);
        cache = cache_resumed c new limits others ∙ cache_is ∙ sym (cache_resumed c database limits r);
        rows = λ name within. ap (λ (d : Principals). map.get d.rows name) there ∙ same.rows name within ∙ sym (ap (λ (d : Principals). map.get d.rows name) here);
      }

  -- ---- runs

  realm_unless : (state : State) (change : PrincipalChange) (fault : Option ChangeFault) → (unless_faulty fault state (record state { database = changed state.database change })).database.realm ≡ state.database.realm
  realm_unless state change (Some fault) = refl
  realm_unless state change None = realm_stays state.database change

  same_granted : (realm later : List ℕ) → later ≡ realm → IsTrue (S (tgs_principal realm)) → IsTrue (S (tgs_principal later))
  same_granted realm later is tgs = subst (λ r. IsTrue (S (tgs_principal r))) (sym is) tgs

  -- S still holds the realm's ticket-granting service afterwards
  pub still_granted : (state : State) (event : Event) → NamesWithin c S state event → IsTrue (S (tgs_principal state.database.realm)) → IsTrue (S (tgs_principal (after_event state event).database.realm))
  still_granted state (Request at random room request) within tgs =
      same_granted _ _ (ap (λ d. d.realm) (database_kept state (named state request).client (answer (view state request) at random room request).kept)) tgs
  still_granted state (Change change) within tgs = same_granted _ _ (realm_unless state change (refusal state.database change)) tgs
  still_granted state (Replace database) within tgs = same_granted _ _ (realm_replaced state database) tgs
  still_granted state (Tidy at) within tgs = tgs
  still_granted state (Restart at) within tgs = tgs
  still_granted state (Reopen database limits at) within tgs = within
  still_granted state (Resume database limits resumption) within tgs = same_granted _ _ (ap (λ (d : Principals). d.realm) (database_resumed database limits resumption)) within

  -- an event that stays: the second state runs it, or one like it, and gives the same reply
  pub record IsLeft (state other : State) (event given : Event) : Type 0 where
    pub reply : event_reply other given ≡ event_reply state event
    pub is_own : is_request other given ≡ is_clients_request c state event
    pub agrees : AgreesFor c S (after_event state event) (after_event other given)

  left_itself : (state other : State) (event : Event) (given : Event) → given ≡ event → IsLeft state other event event → IsLeft state other event given
  left_itself state other event given is at = subst (λ (e : Event). IsLeft state other event e) (sym is) at

  pub event_left : (state other : State) (event given : Event) → IsTrue (S (tgs_principal state.database.realm)) → NamesWithin c S state event → AgreesFor c S state other → is_left c S state event ≡ true → IsAlike c S event given → IsLeft state other event given
  event_left state other (Request at random room octets) given tgs within a left is =
      let incoming : Incoming = record { at = at; random = random; room = room; octets = octets } in
      let named_c = is_named c (named state octets).client left in
      let agrees = agrees_at state other incoming a tgs named_c (within left) in
      left_itself state other (Request at random room octets) given is
      (record { reply = same_reply state other incoming a agrees; is_own = sym left; agrees = own_request state other incoming a named_c agrees })
  event_left state other (Change change) given tgs within a left is =
      left_itself state other (Change change) given is (record { reply = refl; is_own = refl; agrees = own_change state other change a left })
  event_left state other (Replace database) given tgs within a left is =
      subst (λ (e : Event). IsLeft state other (Replace database) e) (sym is.1) (record { reply = refl; is_own = refl; agrees = both_replaced state other database is.0 is.2 a })
  event_left state other (Tidy at) given tgs within a left is =
      left_itself state other (Tidy at) given is (record { reply = refl; is_own = refl; agrees = both_tidied state other at a })
  event_left state other (Restart at) given tgs within a left is =
      left_itself state other (Restart at) given is (record { reply = refl; is_own = refl; agrees = both_restart state other at a })
  event_left state other (Reopen database limits at) given tgs within a left is =
      subst (λ (e : Event). IsLeft state other (Reopen database limits at) e) (sym is.1)
      (record { reply = refl; is_own = refl; agrees = record { realm = is.2.realm; limits = refl; row = is.2.row; cache = refl; rows = is.2.rows } })
  event_left state other (Resume database limits resumption) given tgs within a left is =
      subst (λ (e : Event). IsLeft state other (Resume database limits resumption) e) (sym is.2)
      (record { reply = refl; is_own = refl; agrees = both_resumed database is.0 limits resumption is.1 is.3 is.4 })

  -- an event that is struck out: no request of c, and only the first state runs it
  pub event_struck : (state other : State) (event : Event) → AgreesFor c S state other → is_left c S state event ≡ false → (is_clients_request c state event ≡ false) × AgreesFor c S (after_event state event) other
  event_struck state other (Request at random room octets) a struck =
      (struck, other_request state other (record { at = at; random = random; room = room; octets = octets }) a struck)
  event_struck state other (Change change) a struck = (refl, other_change state other change a struck)
  event_struck state other (Replace database) a struck = absurd cc
  event_struck state other (Tidy at) a struck = absurd cc
  event_struck state other (Restart at) a struck = absurd cc
  event_struck state other (Reopen database limits at) a struck = absurd cc
  event_struck state other (Resume database limits resumption) a struck = absurd cc

  module _ (state other : State) (event : Event) (events : List Event) where
    with_left : (given : Event) (others : List Event) → is_left c S state event ≡ true → IsLeft state other event given
        → IsIsolated c S (after_event state event) (after_event other given) events others → IsIsolated c S state other (event ∷ events) (given ∷ others)
    with_left given others left at rest = record {
      own = λ i. if at.is_own i then at.reply i ∷ rest.own i else rest.own i;
      left = (λ i. at.reply i ∷ rest.left i)
          ∙ ap (λ b. if b then event_reply state event ∷ replies_to (is_left c S) (after_event state event) events else replies_to (is_left c S) (after_event state event) events) (sym left);
      afterwards = rest.afterwards;
    }

    with_struck : (others : List Event) → is_left c S state event ≡ false → is_clients_request c state event ≡ false
        → IsIsolated c S (after_event state event) other events others → IsIsolated c S state other (event ∷ events) others
    with_struck others struck not_own rest = record {
      own = rest.own
          ∙ ap (λ b. if b then event_reply state event ∷ replies_to (is_clients_request c) (after_event state event) events else replies_to (is_clients_request c) (after_event state event) events) (sym not_own);
      left = rest.left
          ∙ ap (λ b. if b then event_reply state event ∷ replies_to (is_left c S) (after_event state event) events else replies_to (is_left c S) (after_event state event) events) (sym struck);
      afterwards = rest.afterwards;
    }

  -- the second state runs the events that stay, or events like them
  isolated : (events : List Event) (state other : State) (others : List Event) → IsTrue (S (tgs_principal state.database.realm)) → ServicesWithin c S state events → AgreesFor c S state other
      → AreAlike c S (strike c S state events) others → IsIsolated c S state other events others
  isolated [] state other [] tgs within a alike = record { own = refl; left = refl; afterwards = a }
  isolated [] state other (given ∷ others) tgs within a alike = absurd alike
  isolated (event ∷ events) state other others tgs within a alike =
      by_test (λ t rest agrees same. isolated events (after_event state event) t rest (still_granted state event within.0 tgs) within.1 agrees same) (is_left c S state event) refl others alike
    where
      by_test : ((t : State) (rest : List Event) → AgreesFor c S (after_event state event) t → AreAlike c S (strike c S (after_event state event) events) rest → IsIsolated c S (after_event state event) t events rest)
          → (b : Bool) → is_left c S state event ≡ b → (others : List Event)
          → AreAlike c S (if b then event ∷ strike c S (after_event state event) events else strike c S (after_event state event) events) others → IsIsolated c S state other (event ∷ events) others
      by_test later true left [] alike = absurd alike
      by_test later true left (given ∷ others) alike =
          let at = event_left state other event given tgs within.0 a left alike.0 in
          with_left state other event events given others left at (later (after_event other given) others at.agrees alike.1)
      by_test later false struck others alike =
          let at = event_struck state other event a struck in
          with_struck state other event events others struck at.0 (later other others at.1 alike)

  -- ---- alike

  same_rows : (database : Principals) → HasSameRows c S database database
  same_rows database = record { realm = refl; row = refl; rows = λ name within. refl }

  pub alike_itself : (event : Event) → IsAlike c S event event
  alike_itself (Request at random room request) = refl
  alike_itself (Change change) = refl
  alike_itself (Replace database) = (database, refl, same_rows database)
  alike_itself (Tidy at) = refl
  alike_itself (Restart at) = refl
  alike_itself (Reopen database limits at) = (database, refl, same_rows database)
  alike_itself (Resume database limits resumption) = (database, resumption, refl, same_rows database, refl)

  pub alike_all : (events : List Event) → AreAlike c S events events
  alike_all [] = tt
  alike_all (event ∷ events) = (alike_itself event, alike_all events)

pub isolation : (state : State) (events : List Event) → Isolation state events
isolation state events c S other tgs within a = isolated c S events state other (strike c S state events) tgs within a (alike_all c S (strike c S state events))

-- ---- two runs

module _ (c : Components) (S : Names) where
  pub agrees_itself : (state : State) → AgreesFor c S state state
  agrees_itself state = record { realm = refl; limits = refl; row = refl; cache = refl; rows = λ name within. refl }

  -- two states that agree with a third
  pub both_agree : (a b third : State) → AgreesFor c S a third → AgreesFor c S b third → AgreesFor c S a b
  both_agree a b third s t = record {
    realm = sym t.realm ∙ s.realm;
    limits = sym t.limits ∙ s.limits;
    row = sym t.row ∙ s.row;
    cache = sym t.cache ∙ s.cache;
    rows = λ name within. sym (t.rows name within) ∙ s.rows name within;
  }

pub unaffected : Unaffected
unaffected c S state other events others tgs within within_other a alike =
    let struck = strike c S other others in
    let here = isolated c S events state other struck tgs within a alike in
    let there = isolated c S others other other struck (subst (λ r. IsTrue (S (tgs_principal r))) (sym a.realm) tgs) within_other (agrees_itself c S other) (alike_all c S struck) in
    record {
      replies = sym there.own ∙ here.own;
      afterwards = both_agree c S (run state events) (run other others) (run other struck) here.afterwards there.afterwards;
    }
