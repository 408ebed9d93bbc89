-- What the files of a journal hold of the authenticators that a server has seen, and why a later start may resume with
-- what it finds in them.
use Rattle.std.specs.Prelude.{◌≡◌, ◌⊎◌, ℕ, ℤ, ◌≤ℤ◌, ◌<ℤ◌, ⊤, true, List, [], ◌∷◌, ◌++◌, map, Option, Some, None}
use Rattle.std.specs.Prelude.{All, Bool, Contains, IfSome, is_some}
use Rattle.std.specs.Int.{int_max}
use Rattle.std.specs.Option.{IsSomeAnd}
use Rattle.krb_fields.specs.Name.{Components}
use Rattle.krb_fields.specs.declared.moment.Moment.{Moment}
use Rattle.replay.specs.Resumed.{Holds, resumed_cache}
use Rattle.replay.specs.declared.keep.Kept.{Kept}
use Rattle.replay.specs.declared.seen.Resumption.{Resumption}
use Rattle.replay.specs.declared.seen.Seen.{Seen}
use Rattle.journal.specs.Decision.{Place, above, above_all, entries_behind, floor_behind, is_cut, is_linked, latest_of}
use Rattle.journal.specs.Decision.{next_start}
use Rattle.journal.specs.Decision.{recent, seen_of, start_of}
use Rattle.journal.specs.Forms.{Entry, Header}
use Rattle.journal.specs.Keeping.{BeginsJournal}
use Rattle.journal.specs.World.{IsLeft, Leaves, World, finished}
use Rattle.journal.specs.declared.files.Begun.{Begun}
use Rattle.journal.specs.declared.files.Begun.TheVariants.{Linked, Anew, Roomy}
use Rattle.journal.specs.declared.files.Left.{Left}
use Rattle.journal.specs.declared.files.Left.TheVariants.{Before, Between, InPlace}
use Rattle.journal.specs.Texts.{HasHeader, HaveElements, chained, header_check, journal_text, last_check}
use Rattle.journal.specs.declared.decision.Found.{Found}
use Rattle.journal.specs.declared.decision.Found.TheVariants.{Nothing, Broken, Whole}
use Rattle.journal.specs.declared.decision.Start.{Start}
use Rattle.journal.specs.declared.decision.Start.TheVariants.{Resumes, Refuses}
use Rattle.journal.specs.declared.journal_file.JournalFile.{JournalFile}
use Rattle.journal.specs.declared.journal_file.Tail.{Tail}
use Rattle.journal.specs.declared.reading.Journal.{Journal}

-- ---- what two journals hold

-- an authenticator is that of one of these entries, or its time is below the floor
abbrev pub IsHeld : ℤ → List Entry → Seen → Type 0
IsHeld floor es seen = (seen.ctime <ℤ floor) ⊎ Contains (map seen_of es) seen

-- The two hold all of this: a start that reads both refuses its authenticators and its times. Times below `low` are too
-- old at any later start.
pub record HoldAll (older : Found) (newer : Journal) (low : ℤ) (r : Resumption) : Type 0 where
  pub floor : r.floor ≤ℤ int_max (floor_behind newer older) low
  pub seen : All (IsHeld (floor_behind newer older) (entries_behind newer older)) r.seen

-- a floor that is not below that of a resumption, and above the times of all its authenticators
pub record IsAbove (floor : ℤ) (r : Resumption) : Type 0 where
  pub floor_above : r.floor ≤ℤ floor
  pub times_above : All (λ (s : Seen). s.ctime <ℤ floor) r.seen

-- what one journal holds
abbrev pub held_in : Journal → Resumption
held_in j = record { floor = j.header.floor; seen = map seen_of j.entries }

-- one more authenticator
abbrev pub with_one : Resumption → Seen → Resumption
with_one r seen = record { floor = r.floor; seen = r.seen ++ seen ∷ [] }

-- ---- what files have

-- A text begins as a journal, whatever is behind that, and has this authenticator: it is that of an entry there, or its
-- time is below the floor of the header.
pub record TextHas (text : List ℕ) (seen : Seen) : Type 0 where
  pub header : Header
  pub entries : List Entry
  pub rest : List ℕ
  pub text_is : text ≡ journal_text header entries ++ rest
  pub has_header : HasHeader header
  pub have_elements : HaveElements entries
  pub held : IsHeld header.floor entries seen

abbrev pub FileHas : Seen → Option (List ℕ) → Type 0
FileHas seen file = IsSomeAnd file (λ text. TextHas text seen)

-- The newer file has it. Or there is none, and the older one has it.
abbrev pub FilesHave : World → Seen → Type 0
FilesHave w seen = FileHas seen w.newer ⊎ ((w.newer ≡ None) × FileHas seen w.older)

-- the floor, if there is one, is above each that they have
abbrev pub IsOver : Option ℤ → World → Type 0
IsOver floor w = IfSome floor (λ f. (seen : Seen) → FilesHave w seen → seen.ctime <ℤ f)

-- if they had this one, they still have it
abbrev pub StillThere : Seen → Option World → Option World → Type 0
StillThere seen old new = Leaves (λ o n. FilesHave o seen → FilesHave n seen) old new

-- ---- what is found in files

-- the sums of a journal are those of all of its entries
pub record HasSums (j : Journal) : Type 0 where
  pub latest_is : j.latest ≡ latest_of j.header.at j.entries
  pub high_is : j.high ≡ above_all j.header.floor j.entries

-- a journal without the entries that are too old to matter
abbrev pub cut : Journal → Journal
cut j = record {
  header = j.header;
  entries = recent j.latest j.entries;
  check = j.check;
  latest = j.latest;
  high = j.high;
}

abbrev pub cut_found : Found → Found
cut_found Nothing = Nothing
cut_found (Broken floor) = Broken floor
cut_found (Whole j) = Whole (cut j)

-- a text that spells a journal with all of its entries
pub record Spells (text : List ℕ) (j : Journal) : Type 0 where
  pub text_is : text ≡ journal_text j.header j.entries
  pub check_is : j.check ≡ last_check (header_check j.header) j.entries
  pub has_header : HasHeader j.header
  pub have_elements : HaveElements j.entries
  pub sums : HasSums j

-- from this second on the same entries may matter
abbrev pub AgreeFrom : ℤ → List Entry → List Entry → Type 0
AgreeFrom from es others = (later : ℤ) → from ≤ℤ later → recent later es ≡ recent later others

-- All entries of a text behind a check, those that may matter, the last check, and the sums.
pub record HaveEntries (text before : List ℕ) (at floor : ℤ) (all kept : List Entry) (check : List ℕ)
    (latest high : ℤ) : Type 0 where
  pub text_is : text ≡ chained before all
  pub check_is : check ≡ last_check before all
  pub have : HaveElements all
  pub kept_are : kept ≡ recent latest all
  pub latest_is : latest ≡ latest_of at all
  pub high_is : high ≡ above_all floor all

-- What the two files hold, if this is what they are. A file that is there may count as broken, and never as absent.
abbrev pub IsSpelled : Option (List ℕ) → Found → Type 0
IsSpelled None Nothing = ⊤
IsSpelled None (Broken floor) = ⊥
IsSpelled None (Whole j) = ⊥
IsSpelled (Some text) Nothing = ⊥
IsSpelled (Some text) (Broken floor) = ⊤
IsSpelled (Some text) (Whole j) = Spells text j

-- what may be found in a file: of a journal, the entries that may matter
abbrev pub IsFound : Option (List ℕ) → Found → Type 0
IsFound file found = (all : Found) × IsSpelled file all × (found ≡ cut_found all)

-- ---- what a start makes of files

-- A start that resumes with `found` refuses all that the other resumption refuses, and what is below this second too.
abbrev pub Knows : ℤ → Resumption → Resumption → Type 0
Knows below r found =
    (c : Components)
    → Holds {T = Kept} (resumed_cache (record { floor = int_max r.floor below; seen = r.seen }) c)
    (resumed_cache found c)

-- No start resumes with these files without knowing all of this.
pub record IsSafe (low : ℤ) (r : Resumption) (w : World) : Type 0 where
  pub knows : (place : Place) (older newer beside : Found) (found : Resumption) (check : Option (List ℕ))
      → IsFound w.older older → IsFound w.newer newer → IsFound w.beside beside
      → next_start place older newer beside ≡ Resumes found check
      → low ≤ℤ found.floor → (below : ℤ) → below ≤ℤ found.floor → Knows below r found

-- ---- the files of a running server

-- The newer file is a whole journal with this last check. The two hold all of this, however the older one is found, and
-- one may resume with them. The floor that the next file begins with, if there can be one, is above all.
pub record IsWhole (low : ℤ) (all : Resumption) (w : World) (check : List ℕ) (floor : Option ℤ) : Type 0 where
  pub newer : Journal
  pub text : List ℕ
  pub newer_is : w.newer ≡ Some text
  pub spells : Spells text newer
  pub check_is : check ≡ newer.check
  pub hold : (older : Found) → IsSpelled w.older older → is_linked newer older ≡ true → HoldAll older newer low all
  pub linked : (older : Found) × IsSpelled w.older older × (is_linked newer older ≡ true)
  pub above_newer : IfSome floor (λ f. IsAbove f (held_in newer))
  pub above_all_seen : IfSome floor (λ f. IsAbove f all)

-- Something could not be kept. What was kept before is safe, and the files have it. The floor is above all, and above
-- all that the files have.
pub record IsLacking (low : ℤ) (kept all : Resumption) (w : World) (floor : Option ℤ) : Type 0 where
  pub safe : IsSafe low kept w
  pub have : (seen : Seen) → Contains kept.seen seen → FilesHave w seen
  pub over : IsOver floor w
  pub above_kept : IfSome floor (λ f. IsAbove f kept)
  pub above_all_seen : IfSome floor (λ f. IsAbove f all)

-- the files of a server that was handed all of this, and kept so much of it
abbrev pub IsKept : ℤ → Resumption → Resumption → World → Option Tail → Option ℤ → Type 0
IsKept low kept all w (Some tail) floor = (kept ≡ all) × IsWhole low all w tail.check floor
IsKept low kept all w None floor = IsLacking low kept all w floor

-- where the world is recorded
abbrev pub HasKept : {F : Type 0} → (F → Option World) → ℤ → Resumption → Resumption → F → Option Tail → Option ℤ
    → Type 0
HasKept world low kept all files tail floor = IfSome (world files) (λ w. IsKept low kept all w tail floor)

-- whether a server has kept all that it was handed
abbrev pub is_whole : {F : Type 0} → JournalFile F → Bool
is_whole journal = is_some journal.tail

-- what was kept after a call: all, if it succeeded
abbrev pub kept_after : {T : Type 0} → Option T → Resumption → Resumption → Resumption
kept_after (Some done) kept all = all
kept_after None kept all = kept

-- a floor above one more time, if there is one
abbrev pub IsRaised : Option ℤ → ℤ → Option ℤ → Type 0
IsRaised floor ctime raised = IfSome raised (λ f. (g : ℤ) × (floor ≡ Some g) × (f ≡ above g ctime))

-- ---- a start

-- what a start knows: what it resumes with, or only its floor
abbrev pub known_by : ℤ → Start → Resumption
known_by floor (Resumes r check) = r
known_by floor (Refuses doubt found) = record { floor = floor; seen = [] }

-- It counts an authenticator that it does not resume with, if its floor is above it.
abbrev pub Counts : Start → ℤ → Seen → Type 0
Counts (Resumes r check) floor seen = ⊤
Counts (Refuses doubt found) floor seen = seen.ctime <ℤ floor

-- a start at this moment, which made this of the files that it found
pub record IsStart (at : Moment) (at_floor : ℤ) (newer : Found) (start : Start) (w : World) : Type 0 where
  pub place : Place
  pub moment : place.at ≡ at
  pub older : Found
  pub beside : Found
  pub older_found : IsFound w.older older
  pub newer_found : IsFound w.newer newer
  pub beside_found : IsFound w.beside beside
  pub decided : start ≡ start_of place older newer beside
  pub floor : at_floor ≡ (known_by at_floor start).floor

-- ---- the laws

-- a file that is begun in place of both, before it is in place
abbrev pub IsUnlinked : Begun → Left → Type 0
IsUnlinked Linked left = ⊥
IsUnlinked Anew Before = ⊤
IsUnlinked Anew Between = ⊤
IsUnlinked Anew InPlace = ⊥
IsUnlinked Roomy Before = ⊤
IsUnlinked Roomy Between = ⊤
IsUnlinked Roomy InPlace = ⊥

-- Whatever a server has kept, no start resumes without it.
abbrev pub KeptIsSafe : Type 0
KeptIsSafe = (low : ℤ) (kept all : Resumption) (w : World) (tail : Option Tail) (floor : Option ℤ)
    → IsKept low kept all w tail floor → IsSafe low kept w

-- And the files have it.
abbrev pub KeptIsThere : Type 0
KeptIsThere = (low : ℤ) (kept all : Resumption) (w : World) (tail : Option Tail) (floor : Option ℤ)
    → IsKept low kept all w tail floor → (seen : Seen) → Contains kept.seen seen → FilesHave w seen

-- Nor does one resume without it after a file that links to none could not be begun, by whomever, unless it is in
-- place.
abbrev pub UnbegunIsSafe : Type 0
UnbegunIsSafe = (low : ℤ) (r : Resumption) (how : Begun) (h : Header) (text check : List ℕ) (left : Left)
    (old new : World)
    → BeginsJournal h text check → h.link ≡ [] → IsUnlinked how left
    → IsSafe low r old → IsLeft how text left old new → IsSafe low r new

-- Nor does one after a turn that was cut was finished, by a start that found it so.
abbrev pub FinishedIsSafe : Type 0
FinishedIsSafe = (low : ℤ) (r : Resumption) (w : World) (older newer beside : Found)
    → IsFound w.older older → IsFound w.newer newer → IsFound w.beside beside → is_cut older newer beside ≡ true
    → IsSafe low r w → IsSafe low r (finished w)

pub record HoldsOn : Type 0 where
  pub kept : KeptIsSafe
  pub there : KeptIsThere
  pub unbegun : UnbegunIsSafe
  pub finished : FinishedIsSafe
