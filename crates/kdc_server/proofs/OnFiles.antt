-- What a start did with the files of its journal, call by call. `A` is that it has a journal.
use Rattle.std.proofs.Common.{◌≡◌, inl, inr, ℤ, ℕ, true, false, List, Option, Some, None, Result, Ok, Err, refl, sym, ap, subst, ◌∙◌}
use Rattle.std.specs.Prelude.{IfErr, IfSome}
use Rattle.krb_fields.specs.declared.moment.Moment.{Moment}
use Rattle.kdc_hub.specs.Hub.{HubState}
use Rattle.journal.specs.Finding.{MayFinish}
use Rattle.journal.specs.Life.{JournalState}
use Rattle.journal.specs.World.{World}
use Rattle.kdc_files.specs.Keeping.{BeginsOver, FailsOver, before_start}
use Rattle.kdc_files.specs.declared.journals.JournalBeginning.{JournalBeginning}
use Rattle.kdc_files.specs.declared.journals.Journals.{Journals}
use Rattle.kdc_server.specs.OnFiles.{HasFailedOver, HasFound, IsStartedOver}
use Rattle.kdc_server.specs.Resuming.{IsReady}
use Rattle.kdc_server.specs.Starting.{HostDid}
use Rattle.kdc_server.specs.declared.host.StartNews.{StartNews}
use Rattle.kdc_server.specs.declared.options.ServeOptions.{ServeOptions}

-- nothing was done
same_finish : (old new : Option World) → new ≡ old → MayFinish old new
same_finish None new same = same
same_finish (Some w) None same = absurd cc
same_finish (Some w) (Some n) same = inl (ap (λ o. world_or w o) same)
  where
    world_or : World → Option World → World
    world_or other (Some x) = x
    world_or other None = other

some_is : (o : Option World) → IfSome o (λ w. o ≡ Some w)
some_is None = tt
some_is (Some w) = refl

-- what holds at any error
pub if_failed : {T E P : Type 0} (r : Result T E) → P → IfErr r (λ x. P)
if_failed (Ok done) p = tt
if_failed (Err fault) p = p

module _ {A : Type 0} where
  pub untouched_once : (a b : Option World) → b ≡ a → A → MayFinish a b
  untouched_once a b one has = same_finish a b one

  pub untouched_twice : (a b c : Option World) → b ≡ a → c ≡ b → A → MayFinish a c
  untouched_twice a b c one two has = same_finish a c (two ∙ one)

  pub untouched_thrice : (a b c d : Option World) → b ≡ a → c ≡ b → d ≡ c → A → MayFinish a d
  untouched_thrice a b c d one two three has = same_finish a d (three ∙ two ∙ one)

  -- nothing was done after it
  pub finished_then : (old next new : Option World) → (A → MayFinish old next) → new ≡ next → A → MayFinish old new
  finished_then old next new finished after has = subst (MayFinish old) (sym after) (finished has)

  pub found_then : (journals : Journals) (old next new : Option World) → (A → HasFound journals old next) → new ≡ next → A → HasFound journals old new
  found_then journals old next new found after has = subst (HasFound journals old) (sym after) (found has)

  -- nor before it
  pub finished_behind : (a b c d new : Option World) → b ≡ a → c ≡ b → d ≡ c → (A → MayFinish d new) → A → MayFinish a new
  finished_behind a b c d new one two three finished has = subst (λ o. MayFinish o new) (three ∙ two ∙ one) (finished has)

  pub found_behind : (journals : Journals) (a b c d new : Option World) → b ≡ a → c ≡ b → d ≡ c → (A → HasFound journals d new) → A → HasFound journals a new
  found_behind journals a b c d new one two three found has = subst (λ o. HasFound journals o new) (three ∙ two ∙ one) (found has)

  -- ---- a start that fails

  pub failed_reading : (options : ServeOptions) (old new : Option World) → (A → MayFinish old new) → A → HasFailedOver options old new
  failed_reading options old new finished has = inl (finished has)

  pub failed_then : (options : ServeOptions) (old next new : Option World) → (A → MayFinish old next) → new ≡ next → A → HasFailedOver options old new
  failed_then options old next new finished after has = inl (subst (MayFinish old) (sym after) (finished has))

  pub failed_later : (options : ServeOptions) (old next mid new : Option World) → (A → MayFinish old next) → mid ≡ next → new ≡ mid → A → HasFailedOver options old new
  failed_later options old next mid new finished one two has = inl (subst (MayFinish old) (sym (two ∙ one)) (finished has))

  pub failed_to_begin : (options : ServeOptions) (before after : Option (List HostDid)) (hub : HubState) (beginning : JournalBeginning) (row_count : ℕ)
      (old next mid new : Option World) → IsReady options before after hub beginning row_count → (A → HasFound beginning.journals old next)
      → mid ≡ next → FailsOver beginning mid new → A → HasFailedOver options old new
  failed_to_begin options before after hub beginning row_count old next mid new ready found same fails has = inr (record {
    rows = ready.rows;
    beginning = beginning;
    ok = false;
    last = before_start beginning new;
    begins = record {
      read = next;
      reads = found has;
      begins = subst (λ o. BeginsOver beginning false o (before_start beginning new)) same fails;
    };
    left = some_is new;
    found = ready.found;
    decided = ready.decided;
    floor = ready.floor;
  })

  -- what began is left as it began
  pub began_and_left : (options : ServeOptions) (before after : Option (List HostDid)) (hub : HubState) (at : Moment) (floor : ℤ) (news : StartNews)
      (old left new : Option World) (journal : JournalState) → (A → IsStartedOver options before after hub at floor news old left journal)
      → new ≡ left → A → HasFailedOver options old new
  began_and_left options before after hub at floor news old left new journal started same has =
      let s = started has in
      inr (record {
        rows = s.started.ready.rows;
        beginning = s.started.beginning;
        ok = true;
        last = journal;
        begins = s.begins;
        left = subst (λ o. IfSome o (λ w. journal.files ≡ Some w)) (sym same) s.left_is;
        found = s.started.ready.found;
        decided = s.started.ready.decided;
        floor = s.started.ready.floor;
      })

-- what a start that fails needs to know, and one that finds a journal
pub ruleset failing = (failed_reading, failed_then, failed_to_begin)

pub ruleset finding = (untouched_once, untouched_twice, untouched_thrice, finished_behind, found_behind)
