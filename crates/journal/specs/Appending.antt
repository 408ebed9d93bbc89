-- What a running server does to its files.
use Rattle.std.specs.Prelude.{◌≡◌, ◌⊎◌, ℕ, ℤ, List, [], Option, Some, None, Result, Ok, Err}
use Rattle.krb_fields.specs.declared.moment.Moment.{Moment}
use Rattle.replay.specs.declared.seen.Resumption.{Resumption}
use Rattle.replay.specs.declared.seen.Seen.{Seen}
use Rattle.journal.specs.Decision.{Place, floor_on}
use Rattle.journal.specs.Holding.{IsUnlinked, Spells, cut}
use Rattle.journal.specs.Keeping.{BeginsJournal, KeepsEntry, begun}
use Rattle.journal.specs.Showing.{Shows, Shown, shown_floor}
use Rattle.journal.specs.World.{HasPart, IsLeft, Leaves, World, with_file, with_more}
use Rattle.journal.specs.declared.decision.Found.{Found}
use Rattle.journal.specs.declared.decision.Found.TheVariants.{Nothing, Broken, Whole}
use Rattle.journal.specs.declared.decision.Start.{Start}
use Rattle.journal.specs.declared.decision.Start.TheVariants.{Resumes}
use Rattle.journal.specs.declared.files.BeginError.{BeginError}
use Rattle.journal.specs.declared.files.Begun.{Begun}
use Rattle.journal.specs.declared.files.Begun.TheVariants.{Linked, Anew, Roomy}
use Rattle.journal.specs.declared.files.Left.{Left}
use Rattle.journal.specs.declared.files.Left.TheVariants.{Before, InPlace}
use Rattle.journal.specs.declared.files.FileText.{FileText}
use Rattle.journal.specs.declared.files.FileText.TheVariants as texts
use Rattle.journal.specs.declared.journal_file.Tail.{Tail}
use Rattle.journal.specs.declared.reading.Journal.{Journal}

-- ---- one call on the files

-- a file was begun, with this floor and this link, and this is its check
pub record BeginsFile (place : Place) (floor : Option ℤ) (link : List ℕ) (how : Begun) (check : List ℕ)
    (old new : Option World)
    : Type 0 where
  pub at_floor : ℤ
  pub text : List ℕ
  pub floor_is : floor ≡ Some at_floor
  pub begins : BeginsJournal (begun place at_floor link) text check
  pub leaves : Leaves (λ o n. n ≡ with_file how text o) old new

-- or it was not, and this is left
pub record FailsFile (place : Place) (floor : Option ℤ) (link : List ℕ) (how : Begun) (left : Left)
    (old new : Option World)
    : Type 0 where
  pub at_floor : ℤ
  pub text : List ℕ
  pub check : List ℕ
  pub floor_is : floor ≡ Some at_floor
  pub begins : BeginsJournal (begun place at_floor link) text check
  pub leaves : Leaves (IsLeft how text left) old new

-- or nothing was done
abbrev pub MayFail : Place → Option ℤ → List ℕ → Begun → Left → Option World → Option World → Type 0
MayFail place floor link how left old new = ((left ≡ Before) × (new ≡ old))
    ⊎ FailsFile place floor link how left old new

abbrev pub HasBegun : {E : Type 0} → Place → Option ℤ → List ℕ → Begun → Option World → Result Tail (BeginError E)
    → Option World
    → Type 0
HasBegun place floor link how old (Ok tail) new = BeginsFile place floor link how tail.check old new
HasBegun place floor link how old (Err fault) new = MayFail place floor link how fault.left old new

-- A start begins a file in place of both. It goes on without an end if the file is in place, and the system may not
-- have that on the disk.
abbrev pub HasStarted : {E : Type 0} → Place → Option ℤ → Option World → Result (Option Tail) E → Option World → Type 0
HasStarted place floor old (Ok (Some tail)) new = BeginsFile place floor [] Anew tail.check old new
HasStarted place floor old (Ok None) new = MayFail place floor [] Anew InPlace old new
HasStarted place floor old (Err fault) new = (left : Left) × IsUnlinked Anew left
    × MayFail place floor [] Anew left old new

-- an authenticator's entry was appended behind a check, and the next check is this
pub record AppendsOne (check : List ℕ) (at : Moment) (seen : Seen) (next : List ℕ)
    (old new : Option World) : Type 0 where
  pub more : List ℕ
  pub keeps : KeepsEntry check at seen more next
  pub leaves : Leaves (λ o n. n ≡ with_more o more) old new

-- or a part of it, or nothing
abbrev pub AppendsPart : List ℕ → Moment → Seen → Option World → Option World → Type 0
AppendsPart check at seen old new =
    (new ≡ old)
    ⊎ ((more : List ℕ) × (next : List ℕ) × KeepsEntry check at seen more next × Leaves (HasPart more) old new)

abbrev pub HasAppended : {E : Type 0} → Moment → Seen → Tail → Option World → Result Tail E → Option World → Type 0
HasAppended at seen tail old (Ok next) new = AppendsOne tail.check at seen next.check old new
HasAppended at seen tail old (Err fault) new = AppendsPart tail.check at seen old new

-- ---- with the end of the file

-- The server goes on in this file, or in another one, which links to it. If neither is known to be there, it has none.
abbrev pub HasTurned : Place → Option ℤ → Tail → Option World → Option Tail → Option World → Type 0
HasTurned place floor tail old (Some next) new =
    ((next.check ≡ tail.check) × MayFail place floor tail.check Linked Before old new)
    ⊎ BeginsFile place floor tail.check Linked next.check old new
HasTurned place floor tail old None new = (left : Left) × MayFail place floor tail.check Linked left old new

abbrev pub MayTurn : Place → Option ℤ → Option Tail → Option World → Option Tail → Option World → Type 0
MayTurn place floor (Some tail) old next new = HasTurned place floor tail old next new
MayTurn place floor None old next new = (next ≡ None) × (new ≡ old)

abbrev pub HasKeptOne : Moment → Seen → Tail → Option World → Option Tail → Option World → Type 0
HasKeptOne at seen tail old (Some next) new = AppendsOne tail.check at seen next.check old new
HasKeptOne at seen tail old None new = AppendsPart tail.check at seen old new

abbrev pub MayKeep : Moment → Seen → Option Tail → Option World → Option Tail → Option World → Type 0
MayKeep at seen (Some tail) old next new = HasKeptOne at seen tail old next new
MayKeep at seen None old next new = (next ≡ None) × (new ≡ old)

-- a file was begun in place of both
abbrev pub HasMended : Place → Option ℤ → Option World → Option Tail → Option World → Type 0
HasMended place floor old (Some next) new = BeginsFile place floor [] Roomy next.check old new
HasMended place floor old None new = (left : Left) × MayFail place floor [] Roomy left old new

-- what was kept after a call: all, if it succeeded
abbrev pub kept_by : {T E : Type 0} → Result T E → Resumption → Resumption → Resumption
kept_by (Ok done) kept all = all
kept_by (Err fault) kept all = kept

-- ---- what is found

-- A text is found broken only if it spells no journal. It may still show entries.
abbrev pub FoundIn : List ℕ → Found → Type 0
FoundIn text Nothing = ⊥
FoundIn text (Broken floor) = ((j : Journal) → Spells text j → ⊥) × (shown : Shown) × Shows text shown
    × (floor ≡ shown_floor shown)
FoundIn text (Whole j) = (all : Journal) × Spells text all × (j ≡ cut all)

abbrev pub FoundBy : FileText → Found → Type 0
FoundBy texts.Nothing found = found ≡ Nothing
FoundBy texts.Unusable found = found ≡ Broken None
FoundBy (texts.Octets octets) found = FoundIn octets.items found

-- The end of the newer file and the floor of a server that goes on behind what it found. Otherwise it doesn't go on.
abbrev pub HasTail : Start → Found → Option (Tail × ℤ) → Type 0
HasTail start newer (Some behind) =
    (r : Resumption) × (j : Journal) × (start ≡ Resumes r (Some behind.0.check)) × (newer ≡ Whole j)
    × (behind.1 ≡ floor_on r.floor j)
HasTail start newer None = (r : Resumption) (check : List ℕ) (j : Journal) → start ≡ Resumes r (Some check)
    → newer ≡ Whole j → ⊥
