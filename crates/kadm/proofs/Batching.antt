-- The lines of a batch, one after another.
use Rattle.std.proofs.Common.{◌≡◌, ◌∙◌, ◌<◌, ◌≤◌, ◌-◌, ℕ, List, [], ◌∷◌, Bool, true, false, Option, None, Result, Ok, Err, IfNone, IfOk}
use Rattle.std.proofs.Common.{ap, arith, drop, get_or, length, subst, sym, take, refl, inl, inr}
use Rattle.std.proofs.lemmas.List.{take_all}
use Rattle.file_store.specs.Input.{Input}
use Rattle.file_store.specs.World.{World}
use Rattle.principals.specs.Database.{Principals}
use Rattle.kadm.specs.Batches.{IsBatchDone, line_text, line_texts}
use Rattle.kadm.specs.Lines.{AreDone, AreInput, AreTried, IsLineDone, IsRun, IsTurn}
use Rattle.kadm_changes.specs.Texts.{Text}
use Rattle.kadm_changes.specs.Worlds.{HoldsDatabase, IsReadBack, with_database}
use Rattle.kadm.specs.declared.batch.BatchLine.{BatchLine}
use Rattle.kadm_changes.specs.WorldLaws.{rewritten}

-- the texts of lines that have a first one
first_text : (lines : List BatchLine) (line : BatchLine) → 1 ≤ length lines → line ≡ get_or lines 0 line
    → line_texts lines ≡ line_text line ∷ line_texts (take (length lines - 1) (drop 1 lines))
first_text [] line some is = absurd (omega (arith, some))
first_text (other ∷ lines) line some is =
    ap (λ front. line_text front ∷ line_texts lines) (sym is)
    ∙ ap (λ back. line_text line ∷ line_texts back) (sym (take_all (length (other ∷ lines) - 1) lines (omega arith)))

no_text : (lines : List BatchLine) → length lines < 1 → line_texts lines ≡ []
no_text [] none = refl
no_text (line ∷ lines) none = absurd (omega (arith, none))

pub none_holds : {A P : Type 0} (end : Option A) → end ≡ None → IfNone end P → P
none_holds {A} {P} end is holds = subst (λ found. IfNone found P) is holds

module _ (first : Option World) (may : Bool) (db : Text) (all : List (List Text)) (p : Principals) where
  -- what the coming lines make of the current database is what all lines make of the first one
  abbrev pub DoneFrom : List (List Text) → Principals → Type 0
  DoneFrom rest d = (new : Principals) → AreDone first may db rest d new → AreDone first may db all p new

  abbrev pub TriedFrom : List (List Text) → Principals → Type 0
  TriedFrom rest d = (new : Principals) → AreTried first may db rest d new → AreTried first may db all p new

  pub done_on : (now : Option World) (lines : List BatchLine) (line : BatchLine) (d e : Principals) → now ≡ first
      → 1 ≤ length lines → line ≡ get_or lines 0 line → DoneFrom (line_texts lines) d → IsLineDone now may db (line_text line) d e
      → DoneFrom (line_texts (take (length lines - 1) (drop 1 lines))) e
  done_on now lines line d e kept some is from done new later =
      from new (subst (λ texts. AreDone first may db texts d new) (sym (first_text lines line some is))
      (e, subst (λ world. IsLineDone world may db (line_text line) d e) kept done, later))

  pub done_end : (lines : List BatchLine) (d : Principals) → length lines < 1 → DoneFrom (line_texts lines) d → AreDone first may db all p d
  done_end lines d none from = from d (subst (λ texts. AreDone first may db texts d d) (sym (no_text lines none)) refl)

  -- a turn of a batch that keeps going
  pub done_turn : (now : Option World) (lines : List BatchLine) (line : BatchLine) (d e : Principals) (whole after : Bool) → now ≡ first
      → 1 ≤ length lines → line ≡ get_or lines 0 line → (whole ≡ true → DoneFrom (line_texts lines) d)
      → IsTurn now may db (line_text line) whole d e after → after ≡ true
      → DoneFrom (line_texts (take (length lines - 1) (drop 1 lines))) e
  done_turn now lines line d e whole after kept some is from (inl (done, same)) stays =
      done_on now lines line d e kept some is (from (sym same ∙ stays)) done
  done_turn now lines line d e whole after kept some is from (inr (same, none)) stays = absurd (subst is_no (sym none ∙ stays) tt)
    where
      is_no : Bool → Type 0
      is_no false = Unit {0}
      is_no true = ⊥

  pub tried_turn : (now : Option World) (lines : List BatchLine) (line : BatchLine) (d e : Principals) (whole after : Bool) → now ≡ first
      → 1 ≤ length lines → line ≡ get_or lines 0 line → TriedFrom (line_texts lines) d
      → IsTurn now may db (line_text line) whole d e after → TriedFrom (line_texts (take (length lines - 1) (drop 1 lines))) e
  tried_turn now lines line d e whole after kept some is from (inl (done, same)) new later =
      from new (subst (λ texts. AreTried first may db texts d new) (sym (first_text lines line some is))
      (e, inl (subst (λ world. IsLineDone world may db (line_text line) d e) kept done), later))
  tried_turn now lines line d e whole after kept some is from (inr (same, none)) new later =
      from new (subst (λ texts. AreTried first may db texts d new) (sym (first_text lines line some is)) (e, inr same, later))

  -- the end of a batch that keeps going
  pub run_over : (lines : List BatchLine) (d : Principals) (whole : Bool) → length lines < 1
      → (whole ≡ true → DoneFrom (line_texts lines) d) → TriedFrom (line_texts lines) d → IsRun first may db true all p d whole
  run_over lines d true none done tried = done_end lines d none (done refl)
  run_over lines d false none done tried = (refl, tried d (subst (λ texts. AreTried first may db texts d d) (sym (no_text lines none)) refl))

-- a run of a batch that keeps going
pub run_kept : {E : Type 0} (r : Result Bool E) (world : Option World) (may : Bool) (db : Text) (keep : Bool) (lines : List (List Text)) (p q : Principals)
    → keep ≡ true → IfOk r (λ whole. IsRun world may db true lines p q whole) → IfOk r (λ whole. IsRun world may db keep lines p q whole)
run_kept (Ok true) world may db keep lines p q is run = run
run_kept (Ok false) world may db keep lines p q is run = (is, run.1)
run_kept (Err e) world may db keep lines p q is run = tt

-- the database is written after a run
pub batched : (before asked locked read made after : Option World) (input : Option Input) (may : Bool) (db path : List ℕ) (keep whole : Bool) (lines : List (List Text)) (p q : Principals)
    → AreInput input lines
    → asked ≡ before → locked ≡ asked → read ≡ locked → made ≡ read → path ≡ db → HoldsDatabase locked db p
    → IsRun read may db keep lines p q whole → IsReadBack q → after ≡ with_database path q made → IsBatchDone before input may db keep whole after
batched before asked locked read made after input may db path keep true lines p q given kept still same stays at holds run reads written = (
  lines,
  given,
  rewritten before asked locked read made after db path (AreDone before may db lines) p q kept still same stays at holds
      (subst (λ world. AreDone world may db lines p q) (same ∙ still ∙ kept) run) reads written,
)
batched before asked locked read made after input may db path keep false lines p q given kept still same stays at holds (keeps, run) reads written = (
  keeps,
  (
    lines,
    given,
    rewritten before asked locked read made after db path (AreTried before may db lines) p q kept still same stays at holds
        (subst (λ world. AreTried world may db lines p q) (same ∙ still ∙ kept) run) reads written,
  ),
)
