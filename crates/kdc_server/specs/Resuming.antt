-- How a server starts, and what its journal begins with.
use Rattle.std.specs.Prelude.{◌≡◌, ◌||◌, ◌+◌, ◌+ℤ◌, ◌-ℤ◌, not, int_lt, if◌then◌else◌, ℕ, ℤ, pos, Bool, true, false}
use Rattle.std.specs.Prelude.{List, [], ◌∷◌, ◌++◌, Option, Some, None, is_some}
use Rattle.std.specs.FinMap as map
use Rattle.std.specs.Option.{option_copied}
use Rattle.std.specs.Int.{int_max, int_min}
use Rattle.krb_fields.specs.Skew.{skew}
use Rattle.krb_fields.specs.declared.moment.Moment.{Moment}
use Rattle.principal_rows.specs.declared.limits.Limits.{Limits}
use Rattle.principals.specs.Database.{Principals}
use Rattle.replay.specs.declared.opening.Opening.{Opening}
use Rattle.replay.specs.Opening.{opening_floor}
use Rattle.replay.specs.declared.seen.Resumption.{Resumption}
use Rattle.kdc_state.specs.Resumed.{resumed_state}
use Rattle.kdc_state.specs.declared.state.State.{State}
use Rattle.kdc_hub.specs.Hub.{HubState}
use Rattle.kdc_hub.specs.Wire.{Records}
use Rattle.journal.specs.Decision.{Place, greater, last_second, start_of}
use Rattle.journal.specs.declared.decision.Found.{Found}
use Rattle.journal.specs.declared.decision.Found.TheVariants.{Nothing, Broken, Whole}
use Rattle.journal.specs.declared.decision.Start.{Start}
use Rattle.journal.specs.declared.decision.Start.TheVariants.{Resumes, Refuses}
use Rattle.kdc_server.specs.Starting.{BeganJournal, HasNoJournal, HostDid, Held, ReadJournals, ReadRows, Showed}
use Rattle.kdc_server.specs.Starting.{opened_by, seed_by}
use Rattle.kdc_server.specs.Starting.{seeded, seeding}
use Rattle.kdc_server.specs.declared.options.ServeOptions.{ServeOptions}
use Rattle.kdc_files.specs.declared.journals.JournalBeginning.{JournalBeginning}
use Rattle.kdc_files.specs.declared.journals.Journals.{Journals}
use Rattle.server_notices.specs.Started.{found_by}
use Rattle.server_notices.specs.declared.started.JournalFound.{JournalFound}

abbrev pub is_there : Found → Bool
is_there Nothing = false
is_there (Broken floor) = true
is_there (Whole journal) = true

-- ---- the floor of a start that refuses

-- the second that a clock shows at a start with this floor: one that a moment can have
abbrev pub second_before : ℤ → ℤ
second_before floor = int_min (int_max (floor -ℤ pos (skew + 1)) (pos 0)) last_second

-- Where the files ask for a floor that is above its own, a start opens as if its clock showed the second that has this
-- floor. So it does not matter how far its clock is behind.
abbrev pub raised_floor : Opening → Option ℤ → ℤ
raised_floor opening None = opening_floor opening
raised_floor opening (Some floor) =
    if int_lt (opening_floor opening) floor then second_before floor +ℤ pos (skew + 1) else opening_floor opening

-- what files asked for that were removed counts too
abbrev pub with_removed : Option ℤ → Start → Start
with_removed removed (Resumes resumption check) = Resumes resumption check
with_removed removed (Refuses doubt floor) = Refuses doubt (greater removed floor)

-- what a start knows of the authenticators before it: what it resumes with, or only how it opens
abbrev pub known_before : Opening → Start → Resumption
known_before opening (Resumes resumption check) = resumption
known_before opening (Refuses doubt floor) = record { floor = raised_floor opening floor; seen = [] }

-- the state that a start begins with
abbrev pub started_state : Principals → Limits → Opening → Start → State
started_state rows limits opening (Resumes resumption check) = resumed_state rows limits resumption
started_state rows limits opening (Refuses doubt floor) =
    record { database = rows; limits = limits; floor = raised_floor opening floor; caches = map.empty }

-- what is said of it, if the options name a journal
abbrev pub found_at : Option (List ℕ) → Start → Moment → Option JournalFound
found_at (Some path) start at = Some (found_by start at.sec)
found_at None start at = None

-- a first start finds no journal, and removed none
abbrev pub are_none : Journals → Bool
are_none journals =
    not (is_there journals.found.newer || is_there journals.found.older || is_there journals.found.beside
    || is_some journals.removed)

abbrev pub may_be_first : Bool → Journals → Bool
may_be_first is_first journals = not is_first || are_none journals

-- it resumes exactly where the journals say so, by the realm of the rows, the boot, the seal and the moment
pub record IsDecided (rows : Principals) (journals : Journals) (at : Moment) (start : Start) : Type 0 where
  pub place : Place
  pub realm : place.realm.now ≡ rows.realm
  pub boot : place.boot.now ≡ journals.boot
  pub seal : place.seal.now ≡ journals.seal
  pub moment : place.at ≡ at
  pub is : start ≡ with_removed journals.removed
      (start_of place journals.found.older journals.found.newer journals.found.beside)

-- ---- what is asked of the host for a journal at a path

-- the files are read; a server without a journal makes sure that none is beside the database
abbrev pub reading : Option (List ℕ) → Journals → List HostDid
reading (Some path) journals = ReadJournals path journals ∷ []
reading None journals = HasNoJournal journals.removed ∷ []

abbrev pub AreAt : Option (List ℕ) → Journals → Type 0
AreAt (Some path) journals = journals.removed ≡ None
AreAt None journals =
    (journals.found.older ≡ Nothing) × (journals.found.newer ≡ Nothing) × (journals.found.beside ≡ Nothing)

-- and in the end the journal begins, if there is to be one
abbrev pub began : Bool → JournalBeginning → List HostDid
began true beginning = BeganJournal beginning ∷ []
began false beginning = []

-- ---- a start

-- What was asked of the host for these options, in this order: its sockets are held before the journals are read, and
-- these before it looks at the clock. And the hub that is made of it, what its journal is to begin with, and how many
-- rows it serves. The moment and the floor of the start are those of the journal's beginning.
pub record IsReady (options : ServeOptions) (before after : Option (List HostDid)) (hub : HubState)
    (beginning : JournalBeginning) (row_count : ℕ) : Type 0 where
  pub rows : Principals
  pub octets : List ℕ
  pub did : Records before
      (ReadRows rows ∷ seeding (option_copied options.seed) octets ∷ Held options.udp.items options.tcp.items
      ∷ reading (option_copied options.journal) beginning.journals ++ Showed beginning.at ∷ []) after
  pub found : AreAt (option_copied options.journal) beginning.journals
  pub first : may_be_first options.is_first beginning.journals ≡ true
  pub decided : IsDecided rows beginning.journals beginning.at beginning.start
  pub kdc : hub.issuing.kdc
      ≡ started_state rows options.limits (opened_by options.is_first beginning.at) beginning.start
  pub realm : beginning.realm ≡ rows.realm
  pub floor : beginning.floor ≡ (known_before (opened_by options.is_first beginning.at) beginning.start).floor
  pub random : hub.issuing.random ≡ seeded (seed_by (option_copied options.seed) octets)
  pub audits : hub.issuing.audits ≡ (is_some options.log || options.is_quiet || is_some options.metrics)
  pub connections : hub.connections ≡ map.empty
  pub count : row_count ≡ map.len rows.rows
