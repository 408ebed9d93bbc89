-- The same connections are open and spent after what is left of replies was written.
use Rattle.std.proofs.Common.{◌≡◌, ◌⊎◌, inl, inr, ℕ, Bool, true, false, not, ◌&&◌, Option, Some, None, Result, Ok, Err, refl, ap, ◌∙◌, sym, subst}
use Rattle.std.specs.Prelude.{◌≢◌, IfOk, IsSomeAnd}
use Rattle.std.proofs.Math.Dec.{eqb}
use Rattle.std.proofs.lemmas.Bool.Decides.{eqb_tells}
use Rattle.krb_fields.specs.declared.moment.Moment.{Moment}
use Rattle.kdc_hub.specs.declared.event.Event.{Event}
use Rattle.kdc_sockets.specs.declared.connection.Connection.{Connection}
use Rattle.kdc_sockets.specs.Given.{is_all_given}
use Rattle.kdc_sockets.specs.Table.{EndsSpent, EndsSpentFirst, IsGiven, IsSpent, KeepsOthers, OpensAlike, ReportsSpent, ReportsSpentFirst, SpentAlike, Table, held_at, is_open, opens}

live_of : (closing given : Bool) → (not closing && given) ≡ true → (closing ≡ false) × (given ≡ true)
live_of true given is = absurd cc
live_of false given is = (refl, is)

still_live : (closing : Bool) → not closing ≡ true → closing ≡ false
still_live true is = absurd cc
still_live false is = refl

-- what is held of an open one
open_held : (o : Option Connection) → opens o ≡ true → (c : Connection) × (o ≡ Some c) × (c.is_closing ≡ false)
open_held None is = absurd cc
open_held (Some c) is = (c, refl, still_live c.is_closing is)

-- ---- one connection is flushed

module _ (old new : Table) (conn : ℕ) (others : KeepsOthers old conn new) (flushed : is_open new conn ≡ is_open old conn)
    (given : (c : Connection) → held_at old conn ≡ Some c → c.is_closing ≡ false → IsGiven new conn c.given) where
  pub flush_opens : OpensAlike old new
  flush_opens other = by_place (eqb_tells other conn)
    where
      by_place : ((eqb other conn ≡ true) × (other ≡ conn)) ⊎ ((eqb other conn ≡ false) × (other ≢ conn)) → is_open new other ≡ is_open old other
      by_place (inl (test, same)) = subst (λ k. is_open new k ≡ is_open old k) (sym same) flushed
      by_place (inr (test, apart)) = ap opens (others other apart)

  spent_new : IsSpent old conn → IsSpent new conn
  spent_new s =
      let (live, all) = live_of s.connection.is_closing (is_all_given s.connection.given) s.spent in
      let (after, held, still) = open_held (held_at new conn) (flushed ∙ (ap opens s.held ∙ ap not live)) in
      let same = given s.connection s.held live after held in
      record { connection = after; held = held; spent = ap (λ b. not b && is_all_given after.given) still ∙ (ap is_all_given same ∙ all) }

  spent_old : IsSpent new conn → IsSpent old conn
  spent_old s =
      let (live, all) = live_of s.connection.is_closing (is_all_given s.connection.given) s.spent in
      let (before, held, still) = open_held (held_at old conn) (sym flushed ∙ (ap opens s.held ∙ ap not live)) in
      let same = given before held still s.connection s.held in
      record { connection = before; held = held; spent = ap (λ b. not b && is_all_given before.given) still ∙ (ap is_all_given (sym same) ∙ all) }

  pub flush_spent : SpentAlike old new
  flush_spent other = by_place (eqb_tells other conn)
    where
      moved : (table others : Table) → held_at others other ≡ held_at table other → IsSpent table other → IsSpent others other
      moved table others same s = record { connection = s.connection; held = same ∙ s.held; spent = s.spent }

      by_place : ((eqb other conn ≡ true) × (other ≡ conn)) ⊎ ((eqb other conn ≡ false) × (other ≢ conn)) → (IsSpent old other → IsSpent new other) × (IsSpent new other → IsSpent old other)
      by_place (inl (test, same)) = subst (λ k. (IsSpent old k → IsSpent new k) × (IsSpent new k → IsSpent old k)) (sym same) (spent_new, spent_old)
      by_place (inr (test, apart)) = (moved old new (others other apart), moved new old (sym (others other apart)))

-- ---- several

pub opens_same : (table : Table) → OpensAlike table table
opens_same table conn = refl

pub opens_both : (old mid new : Table) → OpensAlike old mid → OpensAlike mid new → OpensAlike old new
opens_both old mid new first second conn = second conn ∙ first conn

pub spent_same : (table : Table) → SpentAlike table table
spent_same table conn = ((λ s. s), (λ s. s))

pub spent_both : (old mid new : Table) → SpentAlike old mid → SpentAlike mid new → SpentAlike old new
spent_both old mid new first second conn = ((λ s. (second conn).0 ((first conn).0 s)), (λ s. (first conn).1 ((second conn).1 s)))

-- ---- what is polled

on_event : {P Q : Event → Type 0} (o : Option Event) → ((e : Event) → P e → Q e) → IsSomeAnd o P → IsSomeAnd o Q
on_event None f is = is
on_event (Some event) f is = f event is

-- nothing was flushed before it
pub reports_ended : (old new : Table) (event : Option Event) → EndsSpentFirst old event new → ReportsSpentFirst old event new
reports_ended old new event ends conn spent = on_event event one (ends conn spent)
  where
    one : (e : Event) → EndsSpent old e new → ReportsSpent old e new
    one e is = record {
      conn = is.conn;
      event_is = is.event_is;
      spent = is.spent;
      ended = is.ended;
      others = λ other apart. ap opens (is.others other apart);
    }

-- the poll before it flushed some
pub reports_after : (old mid new : Table) (event : Option Event) → SpentAlike old mid → OpensAlike old mid → EndsSpentFirst mid event new
    → ReportsSpentFirst old event new
reports_after old mid new event alike same ends conn spent = on_event event one (ends conn ((alike conn).0 spent))
  where
    one : (e : Event) → EndsSpent mid e new → ReportsSpent old e new
    one e is = record {
      conn = is.conn;
      event_is = is.event_is;
      spent = (alike is.conn).1 is.spent;
      ended = is.ended;
      others = λ other apart. ap opens (is.others other apart) ∙ same other;
    }

-- none is spent, if nothing was polled at first
pub reports_none : (old mid new : Table) (event : Option Event) → EndsSpentFirst old None mid → ReportsSpentFirst old event new
reports_none old mid new event ends conn spent = absurd (ends conn spent)

-- ---- what a call returns

pub looked : {E : Type 0} (r : Result (Moment × Option Event) E) (old mid new : Table) → SpentAlike old mid → OpensAlike old mid
    → IfOk r (λ next. EndsSpentFirst mid next.1 new) → IfOk r (λ next. ReportsSpentFirst old next.1 new)
looked (Ok next) old mid new alike same ends = reports_after old mid new next.1 alike same ends
looked (Err error) old mid new alike same ends = tt

pub looked_again : {E : Type 0} (r : Result (Moment × Option Event) E) (old mid new : Table) (first : Option Event) → first ≡ None
    → EndsSpentFirst old first mid → IfOk r (λ next. ReportsSpentFirst old next.1 new)
looked_again (Ok next) old mid new first none ends = reports_none old mid new next.1 (subst (λ f. EndsSpentFirst old f mid) none ends)
looked_again (Err error) old mid new first none ends = tt
