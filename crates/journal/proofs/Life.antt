-- No start resumes without what the processes of a life kept.
use Rattle.std.proofs.Common.{◌≡◌, ◌⊎◌, inl, inr, ℤ, pos, ◌-ℤ◌, ◌≤ℤ◌, ◌<ℤ◌, Bool, true, false, cond, if◌then◌else◌, List, [], ◌∷◌, ◌++◌, Option, Some, None, Result, Ok, Err, refl, sym, ap, subst, ◌∙◌, append_assoc, arith, ℕ, zero, suc, ◌+ℤ◌, ◌+◌, is_eq, length, take, ◌<◌}
use Rattle.std.specs.Prelude.{All, Contains, IfSome, get_or, int_lt, is_ok}
use Rattle.std.specs.Int.{int_max}
use Rattle.std.specs.Cmp.{Equal-is, tied_itself}
use Rattle.std.specs.FinMap as finmap
use Rattle.std.specs.FinMap.{get-empty, get-insert}
use Rattle.std.specs.Option.{is_some}
use Rattle.std.specs.Ordering.{eq_by_cmp}
use Rattle.std.proofs.lemmas.Bool.{false≢true}
use Rattle.std.proofs.lemmas.Int.{ints, clamps}
use Rattle.std.proofs.lemmas.List.{append-nil}
use Rattle.std.proofs.lemmas.List.Elements.{All-head, All-tail}
use Rattle.krb_fields.specs.Name.{Components, name_cmp, name_total}
use Rattle.krb_fields.specs.Skew.{skew}
use Rattle.krb_fields.specs.declared.moment.Moment.{Moment}
use Rattle.replay.proofs.Holding.{by_first, by_second, either_of, extended_holds, last_spent}
use Rattle.replay.proofs.Stamps.{stamp_exact, stamp_total}
use Rattle.replay.specs.Kept.{nothing_kept}
use Rattle.replay.specs.Resumed.{Holds, is_spent, resumed_cache, stamp_seen, with_all_seen, with_seen}
use Rattle.replay.specs.Stamp.{Stamp, stamp_cmp}
use Rattle.replay.specs.declared.keep.Kept.{Kept}
use Rattle.replay.specs.declared.seen.Resumption.{Resumption}
use Rattle.replay.specs.declared.seen.Seen.{Seen}
use Rattle.journal.proofs.Held.{test_le}
use Rattle.journal.specs.Appending.{kept_by}
use Rattle.journal.specs.Decision.{Place, doubt_of, doubt_without, floor_behind, found_floor, goes_on_behind, is_early, next_start, resumption_of, start_by, start_of}
use Rattle.journal.specs.Holding.{IsAbove, IsFound, IsKept, IsSafe, IsStart, known_by}
use Rattle.journal.specs.Life.{AllIsKept, AreCalls, Call, Follows, IsBegun, IsCall, IsKeptIn, IsLater, IsProcess, IsSafeAfter, IsStage, JournalState, KeptIsRefused, LeavesNoSeal, NextBootRefuses, Past, Process, ProcessIsSafe, Serves, Stage, StagesFollow, StartsAreLater, StaysSafe}
use Rattle.journal.specs.Life.{all_after, kept_by_process, kept_in, past_after, past_after_all, past_of, result_of, seen_in}
use Rattle.journal.specs.Life.Call.{Keep, Mend}
use Rattle.journal.specs.Life.Stage.{Ran, Finished, Sealed, Lost}
use Rattle.journal.specs.World.{World}
use Rattle.journal.specs.declared.decision.ResumeRefusal.{ResumeRefusal}
use Rattle.journal.specs.declared.decision.ResumeRefusal.TheVariants.{Damaged}
use Rattle.journal.specs.declared.decision.Found.{Found}
use Rattle.journal.specs.declared.decision.Found.TheVariants.{Nothing, Broken, Whole}
use Rattle.journal.specs.declared.reading.Journal.{Journal}
use Rattle.journal.specs.declared.decision.Start.{Start}
use Rattle.journal.specs.declared.decision.Start.TheVariants.{Resumes, Refuses}
use Rattle.journal.specs.declared.journal_file.NotKept.{NotKept}
use Rattle.journal.proofs.Seals.{seals_hold, sealed_safe, stays_broken}
use Rattle.journal.proofs.Worlds.{finished_is_safe, kept_is_safe, spelled_len}

-- ---- numbers and tests

same_le : (a : ℤ) → a ≤ℤ a
same_le a = grind (arith, ints)

max_first : (a b : ℤ) → a ≤ℤ int_max a b
max_first a b = grind (arith, ints, clamps)

under_max : (a b t : ℤ) → int_lt t (int_max a b) ≡ true → (int_lt t a ≡ true) ⊎ (int_lt t b ≡ true)
under_max a b t h = by_test (int_lt t a) refl
  where
    by_test : (c : Bool) → int_lt t a ≡ c → (int_lt t a ≡ true) ⊎ (int_lt t b ≡ true)
    by_test true e = inl e
    by_test false e = inr (grind (arith, ints, clamps))

above_max : (a b t : ℤ) → int_lt t b ≡ true → int_lt t (int_max a b) ≡ true
above_max a b t h = grind (arith, ints, clamps)

lt_test : (a b : ℤ) → a <ℤ b → int_lt a b ≡ true
lt_test a b x = grind (arith, ints)

-- ---- one resumption refuses all that another one refuses

abbrev IsWithin : Resumption → Resumption → Type 0
IsWithin r k = (c : Components) → Holds {T = Kept} (resumed_cache r c) (resumed_cache k c)

same_within : (r : Resumption) → IsWithin r r
same_within r c s is = is

within_both : (r k l : Resumption) → IsWithin r k → IsWithin k l → IsWithin r l
within_both r k l a b c s is = b c s (a c s is)

abbrev raised : Resumption → ℤ → Resumption
raised r below = record { floor = int_max r.floor below; seen = r.seen }

raised_within : (r : Resumption) (below : ℤ) → IsWithin r (raised r below)
raised_within r below c s is = by_part (either_of (int_lt s.0 r.floor) (is_some (finmap.get (resumed_cache r c).pairs s)) is)
  where
    by_part : (int_lt s.0 r.floor ≡ true) ⊎ (is_some (finmap.get (resumed_cache r c).pairs s) ≡ true) → is_spent (resumed_cache (raised r below) c) s ≡ true
    by_part (inl low) =
        by_first (int_lt s.0 (int_max r.floor below)) (is_some (finmap.get (resumed_cache r c).pairs s))
        (test_le s.0 r.floor (int_max r.floor below) low (max_first r.floor below))
    by_part (inr there) = by_second (int_lt s.0 (int_max r.floor below)) (is_some (finmap.get (resumed_cache r c).pairs s)) there

raised_both : (r k : Resumption) (below : ℤ) → IsWithin r k → IsWithin (raised r below) (raised k below)
raised_both r k below within c s is =
    by_part (either_of (int_lt s.0 (int_max r.floor below)) (is_some (finmap.get (resumed_cache r c).pairs s)) is)
  where
    own : is_spent (resumed_cache r c) s ≡ true → is_spent (resumed_cache (raised k below) c) s ≡ true
    own is = raised_within k below c s (within c s is)

    by_floor : (int_lt s.0 r.floor ≡ true) ⊎ (int_lt s.0 below ≡ true) → is_spent (resumed_cache (raised k below) c) s ≡ true
    by_floor (inl low) = own (by_first (int_lt s.0 r.floor) (is_some (finmap.get (resumed_cache r c).pairs s)) low)
    by_floor (inr low) =
        by_first (int_lt s.0 (int_max k.floor below)) (is_some (finmap.get (resumed_cache k c).pairs s)) (above_max k.floor below s.0 low)

    by_part : (int_lt s.0 (int_max r.floor below) ≡ true) ⊎ (is_some (finmap.get (resumed_cache r c).pairs s) ≡ true)
        → is_spent (resumed_cache (raised k below) c) s ≡ true
    by_part (inl low) = by_floor (under_max r.floor below s.0 low)
    by_part (inr there) = own (by_second (int_lt s.0 r.floor) (is_some (finmap.get (resumed_cache r c).pairs s)) there)

-- files that are safe for one are safe for the other
within_safe : (low : ℤ) (r k : Resumption) → IsWithin r k → (w : World) → IsSafe low k w → IsSafe low r w
within_safe low r k within w safe = record {
  knows = λ place older newer beside found check o n b starts late below under c s is.
      safe.knows place older newer beside found check o n b starts late below under c s (raised_both r k below within c s is);
}

-- ---- a floor above all

module _ (c : Components) (s : Stamp) (floor : ℤ) where
  abbrev Pairs : Type 0
  Pairs = finmap.FinMap stamp_cmp Kept

  some_of : (b : Bool) (o : Option Kept) → is_some (cond b (Some nothing_kept) o) ≡ true → (b ≡ true) ⊎ (is_some o ≡ true)
  some_of true o e = inl refl
  some_of false o e = inr e

  one_below : (pairs : Pairs) (x : Seen) → x.ctime <ℤ floor → (own : Bool)
      → is_some (finmap.get (if own then finmap.insert pairs (stamp_seen x) nothing_kept else pairs) s) ≡ true
      → (int_lt s.0 floor ≡ true) ⊎ (is_some (finmap.get pairs s) ≡ true)
  one_below pairs x lt false there = inr there
  one_below pairs x lt true there =
      by_key (some_of (eq_by_cmp stamp_cmp s (stamp_seen x)) (finmap.get pairs s)
      (sym (ap is_some (get-insert stamp_total pairs (stamp_seen x) nothing_kept s)) ∙ there))
    where
      by_key : (eq_by_cmp stamp_cmp s (stamp_seen x) ≡ true) ⊎ (is_some (finmap.get pairs s) ≡ true)
          → (int_lt s.0 floor ≡ true) ⊎ (is_some (finmap.get pairs s) ≡ true)
      by_key (inl same) =
          inl (subst (λ (t : Stamp). int_lt t.0 floor ≡ true) (sym (stamp_exact s (stamp_seen x) ((Equal-is (stamp_cmp s (stamp_seen x))).0 same)))
          (lt_test x.ctime floor lt))
      by_key (inr before) = inr before

  all_below : (pairs : Pairs) (xs : List Seen) → All (λ (x : Seen). x.ctime <ℤ floor) xs → is_some (finmap.get (with_all_seen c pairs xs) s) ≡ true
      → (int_lt s.0 floor ≡ true) ⊎ (is_some (finmap.get pairs s) ≡ true)
  all_below pairs [] all there = inr there
  all_below pairs (x ∷ xs) all there =
      by_rest (all_below (with_seen c pairs x) xs (All-tail (λ (x : Seen). x.ctime <ℤ floor) x xs all) there)
    where
      by_rest : (int_lt s.0 floor ≡ true) ⊎ (is_some (finmap.get (with_seen c pairs x) s) ≡ true)
          → (int_lt s.0 floor ≡ true) ⊎ (is_some (finmap.get pairs s) ≡ true)
      by_rest (inl low) = inl low
      by_rest (inr there) =
          one_below pairs x (All-head (λ (x : Seen). x.ctime <ℤ floor) x xs all) (eq_by_cmp name_cmp c x.client.components) there

abbrev none_yet : finmap.FinMap stamp_cmp Kept
none_yet = finmap.empty

none_there : (s : Stamp) → is_some (finmap.get none_yet s) ≡ true → ⊥
none_there s there = absurd (false≢true (sym (ap is_some (get-empty stamp_cmp s)) ∙ there))

abbrev only_floor : ℤ → Resumption
only_floor floor = record { floor = floor; seen = [] }

above_within : (floor : ℤ) (r : Resumption) → IsAbove floor r → IsWithin r (only_floor floor)
above_within floor r a c s is = by_part (either_of (int_lt s.0 r.floor) (is_some (finmap.get (resumed_cache r c).pairs s)) is)
  where
    low_spent : int_lt s.0 floor ≡ true → is_spent (resumed_cache (only_floor floor) c) s ≡ true
    low_spent low = by_first (int_lt s.0 floor) (is_some (finmap.get (resumed_cache (only_floor floor) c).pairs s)) low

    by_times : (int_lt s.0 floor ≡ true) ⊎ (is_some (finmap.get none_yet s) ≡ true) → is_spent (resumed_cache (only_floor floor) c) s ≡ true
    by_times (inl low) = low_spent low
    by_times (inr none) = absurd (none_there s none)

    by_part : (int_lt s.0 r.floor ≡ true) ⊎ (is_some (finmap.get (resumed_cache r c).pairs s) ≡ true) → is_spent (resumed_cache (only_floor floor) c) s ≡ true
    by_part (inl low) = low_spent (test_le s.0 r.floor floor low a.floor_above)
    by_part (inr there) = by_times (all_below c s floor none_yet r.seen a.times_above there)

-- ---- the calls of one process

pub calls_kept : (low : ℤ) (kept all : Resumption) (calls : List Call) (old new : JournalState) → AreCalls calls old new → IsKeptIn low kept all old
    → (more : Resumption) × IsKeptIn low (kept_in kept all calls) more new
unfolding kept_in
calls_kept low kept all [] old new same is = (all, subst (IsKeptIn low kept all) (sym same) is)
calls_kept low kept all (call ∷ calls) old new (next, step, rest) is =
    calls_kept low (kept_by (result_of call) kept (all_after all call)) (all_after all call) calls next new rest (step.kept low kept all is)

one_more : (all : Resumption) (call : Call) → IsWithin all (all_after all call)
one_more all (Keep seen result) c = extended_holds c all all.floor (seen ∷ []) (same_le all.floor)
one_more all (Mend result) c = same_within all c

by_result : (result : Result Unit NotKept) (kept all : Resumption) → IsWithin kept all → IsWithin kept (kept_by result kept all) × IsWithin (kept_by result kept all) all
by_result (Ok done) kept all within = (within, same_within all)
by_result (Err fault) kept all within = (same_within kept, within)

calls_within : (kept all : Resumption) (calls : List Call) → IsWithin kept all → IsWithin kept (kept_in kept all calls)
unfolding kept_in
calls_within kept all [] within = same_within kept
calls_within kept all (call ∷ calls) within =
    let more = all_after all call in
    let parts = by_result (result_of call) kept more (within_both kept all more within (one_more all call)) in
    let next = kept_by (result_of call) kept more in
    within_both kept next (kept_in next more calls) parts.0 (calls_within next more calls parts.1)

state_safe : (low : ℤ) (kept all : Resumption) (s : JournalState) → IsKeptIn low kept all s → IfSome s.files (IsSafe low kept)
state_safe low kept all s is = by_files s.files is
  where
    by_files : (files : Option World) → IfSome files (λ w. IsKept low kept all w s.tail s.floor) → IfSome files (IsSafe low kept)
    by_files None is = tt
    by_files (Some w) is = kept_is_safe low kept all w s.tail s.floor is

calls_unsealed : (calls : List Call) (old new : JournalState) → AreCalls calls old new → IfSome old.files (λ w. w.seal ≡ [])
    → IfSome new.files (λ w. w.seal ≡ [])
calls_unsealed [] old new same none = subst (λ (s : JournalState). IfSome s.files (λ w. w.seal ≡ [])) (sym same) none
calls_unsealed (call ∷ calls) old new (next, step, rest) none =
    calls_unsealed calls next new rest (stays_broken old.files next.files step.seal none)

-- ---- what a process begins with refuses all that was kept before it

-- a start that resumes found no turn that was cut
resumes_next : (place : Place) (older newer beside : Found) (found : Resumption) (check : Option (List ℕ))
    → start_of place older newer beside ≡ Resumes found check
    → next_start place older newer beside ≡ Resumes found check
resumes_next place older Nothing beside found check is = absurd cc
resumes_next place older (Broken lost) beside found check is = absurd cc
resumes_next place older (Whole j) beside found check is = is

begins_within : (past : Past) (r : Resumption) (p : Process) (w : World) → IsSafeAfter r past w
    → IsStart p.at p.floor p.newer p.start w → IsLater r past p.floor p.start → IsWithin r (known_by p.floor p.start)
begins_within past r p w safe starts later = by_start p.start refl later
  where
    by_start : (made : Start) → p.start ≡ made → IsLater r past p.floor made → IsWithin r (known_by p.floor made)
    by_start (Refuses doubt lost) is above = above_within p.floor r above
    by_start (Resumes found check) is late =
        within_both r (raised r found.floor) found (raised_within r found.floor)
        ((safe late.0).knows starts.place starts.older p.newer starts.beside found check starts.older_found starts.newer_found starts.beside_found
        (resumes_next starts.place starts.older p.newer starts.beside found check (sym starts.decided ∙ is)) late.1 found.floor (same_le found.floor))

module _ (p : Process) (old new : World) (is : IsProcess p old new) where
  abbrev known : Resumption
  known = known_by p.floor p.start

  abbrev low : ℤ
  low = (past_of p).low

  -- its journal began
  module _ (begun : p.has_begun ≡ true) where
    made : AreCalls p.calls is.begun is.last
    made = subst (λ b. Serves b p.calls is.begun is.last) begun is.serves

    process_safe : IsSafe low (kept_by_process p) new
    process_safe =
        let begins = is.begins.kept begun p.floor is.floor (subst (λ w. IfSome w (IsStart p.at p.floor p.newer p.start)) (sym is.found) is.start) in
        let (all, kept) = calls_kept low known known p.calls is.begun is.last made begins in
        subst (λ w. IfSome w (IsSafe low (kept_by_process p))) is.left (state_safe low (kept_by_process p) all is.last kept)

    before_safe : (past : Past) (r : Resumption) → IsSafeAfter r past old → IsLater r past p.floor p.start → IsSafe low r new
    before_safe past r safe later =
        within_safe low r (kept_by_process p)
        (within_both r known (kept_by_process p) (begins_within past r p old safe is.start later) (calls_within known known p.calls (same_within known)))
        new process_safe

    no_seal : new.seal ≡ []
    no_seal = subst (λ w. IfSome w (λ w. w.seal ≡ [])) is.left (calls_unsealed p.calls is.begun is.last made (is.begins.broken begun))

  -- or it failed to begin
  failed_safe : p.has_begun ≡ false → (before : ℤ) (r : Resumption) → IsSafe before r old → IsSafe before r new
  failed_safe failed before r safe =
      let same : is.last ≡ is.begun = subst (λ b. Serves b p.calls is.begun is.last) failed is.serves in
      subst (λ w. IfSome w (IsSafe before r)) is.left
      (subst (λ (s : JournalState). IfSome s.files (IsSafe before r)) (sym same)
      (is.begins.safe before r (subst (λ w. IfSome w (IsSafe before r)) (sym is.found) safe) failed))

  safe_after : (r : Resumption) (past : Past) → IsSafeAfter r past old → Follows r past (Ran p) → (b : Bool) → p.has_begun ≡ b
      → IsSafeAfter r (if b then past_of p else past) new
  safe_after r past safe later true begun here = before_safe begun past r safe (later begun)
  safe_after r past safe later false failed here = failed_safe failed past.low r (safe here)

-- ---- a life

pub process_is_safe : ProcessIsSafe
process_is_safe p old new begun is = process_safe p old new is begun

stage_safe : (r : Resumption) (past : Past) (stage : Stage) (old new : World) → IsSafeAfter r past old → IsStage stage old new → Follows r past stage
    → IsSafeAfter r (past_after past stage) new
stage_safe r past (Ran p) old new safe is follows here = safe_after p old new is r past safe follows p.has_begun refl here
stage_safe r past Finished old new safe (finds, same) follows here =
    subst (IsSafe past.low r) (sym same)
    (finished_is_safe past.low r old finds.older finds.newer finds.beside finds.older_found finds.newer_found finds.beside_found finds.cut (safe here))
stage_safe r past Sealed old new safe (seal, same) follows here = subst (IsSafe past.low r) (sym same) (sealed_safe past.low r old seal (safe here))
stage_safe r past Lost old new safe is follows here = absurd (false≢true (sym here))

pub stays_safe : StaysSafe
unfolding past_after_all StagesFollow
stays_safe r past [] old new safe same follows = subst (IsSafeAfter r past) (sym same) safe
stays_safe r past (stage ∷ life) old new safe (next, is, rest) follows =
    stays_safe r (past_after past stage) life next new (stage_safe r past stage old next safe is follows.0) rest follows.1

pub leaves_no_seal : LeavesNoSeal
leaves_no_seal p old new begun is = no_seal p old new is begun

-- ---- each authenticator that was kept is refused

cut_at : (xs : List Seen) (x : Seen) → Contains xs x → (before after : List Seen) × (xs ≡ before ++ x ∷ after)
cut_at [] x (k, lt, is) = absurd (omega (arith, lt))
cut_at (y ∷ ys) x (zero, lt, is) = ([], ys, ap (λ z. z ∷ ys) is)
cut_at (y ∷ ys) x (suc k, lt, is) =
    let (before, after, rest) = cut_at ys x (k, omega (arith, lt), is) in
    (y ∷ before, after, ap (λ l. y ∷ l) rest)

own_name : (seen : Seen) → eq_by_cmp name_cmp seen.client.components seen.client.components ≡ true
own_name seen = ap is_eq (tied_itself name_total seen.client.components)

spent_itself : (r : Resumption) (seen : Seen) → Contains r.seen seen → is_spent (resumed_cache r seen.client.components) (stamp_seen seen) ≡ true
spent_itself r seen has =
    let c = seen.client.components in
    let (before, after, is) = cut_at r.seen seen has in
    let first : Resumption = record { floor = r.floor; seen = before } in
    let upto : Resumption = record { floor = r.floor; seen = before ++ seen ∷ [] } in
    subst (λ l. is_spent (resumed_cache (record { floor = r.floor; seen = l }) c) (stamp_seen seen) ≡ true) (append_assoc before (seen ∷ []) after ∙ sym is)
    (extended_holds c upto r.floor after (same_le r.floor) (stamp_seen seen) (last_spent c first r.floor seen (own_name seen)))

pub kept_is_refused : KeptIsRefused
kept_is_refused p life before after new begun is lives follows place older newer beside found check o n b starts late seen has =
    let kept = kept_by_process p in
    let safe = stays_safe kept (past_of p) life after new (λ here. process_is_safe p before after begun is) lives follows late.0 in
    safe.knows place older newer beside found check o n b starts late.1 found.floor (same_le found.floor) seen.client.components (stamp_seen seen)
    (raised_within kept found.floor seen.client.components (stamp_seen seen) (spent_itself kept seen has))

-- ---- what is kept if the last call succeeded

-- with these authenticators behind its own
abbrev with_all : Resumption → List Seen → Resumption
with_all r seen = record { floor = r.floor; seen = r.seen ++ seen }

one_more_seen : (all : Resumption) (call : Call) (others : List Seen) → with_all (all_after all call) others ≡ with_all all (seen_in (call ∷ []) ++ others)
one_more_seen all (Keep seen result) others = ap (λ l. record { floor = all.floor; seen = l }) (append_assoc all.seen (seen ∷ []) others)
one_more_seen all (Mend result) others = refl

first_seen : (call : Call) (calls : List Call) → seen_in (call ∷ calls) ≡ seen_in (call ∷ []) ++ seen_in calls
first_seen (Keep seen result) calls = refl
first_seen (Mend result) calls = refl

kept_last : (result : Result Unit NotKept) (kept all : Resumption) → is_ok result ≡ true → kept_by result kept all ≡ all
kept_last (Ok done) kept all ok = refl
kept_last (Err fault) kept all ok = absurd cc

all_in : (kept all : Resumption) (calls : List Call) (last : Call) → is_ok (result_of last) ≡ true
    → kept_in kept all (calls ++ last ∷ []) ≡ with_all all (seen_in (calls ++ last ∷ []))
unfolding kept_in
all_in kept all [] last ok =
    kept_last (result_of last) kept (all_after all last) ok
    ∙ ap (λ l. record { floor = (all_after all last).floor; seen = l }) (sym (append-nil (all_after all last).seen))
    ∙ one_more_seen all last []
    ∙ ap (with_all all) (sym (first_seen last []))
all_in kept all (call ∷ calls) last ok =
    all_in (kept_by (result_of call) kept (all_after all call)) (all_after all call) calls last ok
    ∙ one_more_seen all call (seen_in (calls ++ last ∷ []))
    ∙ ap (with_all all) (sym (first_seen call (calls ++ last ∷ [])))

pub all_is_kept : AllIsKept
all_is_kept r calls last ok = all_in r r calls last ok

-- ---- starts

abbrev resumption_or : Resumption → Start → Resumption
resumption_or otherwise (Resumes found check) = found
resumption_or otherwise (Refuses doubt lost) = otherwise

not_below : (at floor high : ℤ) (early : Bool)
    → (at -ℤ pos skew) ≤ℤ (if early then int_max (at +ℤ pos (skew + 1)) high else int_max floor (at -ℤ pos skew))
not_below at floor high true = grind (arith, ints, clamps)
not_below at floor high false = grind (arith, ints, clamps)

pub starts_are_later : StartsAreLater
starts_are_later place older Nothing beside found check is = absurd cc
starts_are_later place older (Broken lost) beside found check is = absurd cc
starts_are_later place older (Whole j) beside found check is = by_doubt (doubt_of place older j) is
  where
    by_doubt : (doubt : Option ResumeRefusal) → start_by place older j beside doubt ≡ Resumes found check
        → (place.at.sec -ℤ pos skew) ≤ℤ found.floor
    by_doubt (Some doubt) is = absurd cc
    by_doubt None is =
        subst (λ (r : Resumption). (place.at.sec -ℤ pos skew) ≤ℤ r.floor) (ap (resumption_or found) is)
        (not_below place.at.sec (floor_behind j older) j.high (is_early place j older))

abbrev check_or : List ℕ → Found → List ℕ
check_or otherwise Nothing = otherwise
check_or otherwise (Broken lost) = otherwise
check_or otherwise (Whole j) = j.check

found_len : (file : Option (List ℕ)) (j : Journal) → IsFound file (Whole j) → length j.check ≡ 16
found_len file j (Nothing, s, is) = absurd cc
found_len file j (Broken lost, s, is) = absurd cc
found_len file j (Whole all, s, is) = ap (λ f. length (check_or [] f)) is ∙ spelled_len file all s

pub next_boot_refuses : NextBootRefuses
next_boot_refuses w place older Nothing beside o n none other = (doubt_without older beside, found_floor older Nothing beside, refl)
next_boot_refuses w place older (Broken lost) beside o n none other = (Damaged, found_floor older (Broken lost) beside, refl)
next_boot_refuses w place older (Whole j) beside o n none other = by_doubt (doubt_of place older j) refl
  where
    by_boot : (k : Journal) → Whole j ≡ Whole k → (k.header.boot ≡ place.boot.now) ⊎ (place.seal.now ≡ k.check) → ⊥
    by_boot k same (inl boot) = other k same boot
    by_boot k same (inr seal) =
        let len = found_len w.newer k (subst (IsFound w.newer) same n) in
        let empty : length k.check ≡ 0 = ap length (sym seal ∙ none) in
        absurd (omega (arith, len, empty))

    by_doubt : (doubt : Option ResumeRefusal) → doubt_of place older j ≡ doubt
        → (d : ResumeRefusal) × (floor : Option ℤ) × (start_by place older j beside (doubt_of place older j) ≡ Refuses d floor)
    by_doubt (Some doubt) is = (doubt, found_floor older (Whole j) beside, ap (start_by place older j beside) is)
    by_doubt None is =
        let (k, same, either) = seals_hold.needed place older (Whole j) beside (resumption_of place older j) (goes_on_behind place older j) (ap (start_by place older j beside) is) in
        absurd (by_boot k same either)
