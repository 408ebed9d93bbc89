-- What a start makes of the journals that it finds.
use Rattle.std.specs.Prelude.{ℕ, ℤ, pos, neg_ℤ, ◌+◌, ◌+ℤ◌, ◌-ℤ◌, Bool, true, false, not, ◌&&◌, ◌||◌, nat_eq, int_lt}
use Rattle.std.specs.Prelude.{int_le, if◌then◌else◌}
use Rattle.std.specs.Prelude.{List, [], ◌∷◌, ◌++◌, map, Option, Some, None, Result, Ok, Err}
use Rattle.std.specs.Int.{int_max, int_min}
use Rattle.std.specs.List.{filter}
use Rattle.std.specs.Cmp.Lexicographic.{pointwise}
use Rattle.krb_fields.specs.Skew.{skew}
use Rattle.rule_lists.specs.Refusals.{first_holding}
use Rattle.replay.specs.Opening.{opening_floor}
use Rattle.replay.specs.declared.opening.Opening.TheVariants.{Restart}
use Rattle.replay.specs.declared.seen.Resumption.{Resumption}
use Rattle.replay.specs.declared.seen.Seen.{Seen}
use Rattle.journal.specs.Forms.{Entry}
use Rattle.journal.specs.declared.decision.ResumeRefusal.{ResumeRefusal}
use Rattle.journal.specs.declared.decision.ResumeRefusal.TheVariants.{Absent, Damaged, OtherRealm, OtherBoot, Unlinked}
use Rattle.journal.specs.declared.decision.Found.{Found}
use Rattle.journal.specs.declared.decision.Found.TheVariants.{Nothing, Broken, Whole}
use Rattle.journal.specs.declared.decision.Place as places
use Rattle.journal.specs.declared.decision.Start.{Start}
use Rattle.journal.specs.declared.decision.Start.TheVariants.{Resumes, Refuses}
use Rattle.journal.specs.declared.reading.Journal.{Journal}

abbrev pub Place : Type 0
Place = places.Place

-- the second in which the request of an entry came
abbrev pub came : Entry → ℤ
came e = e.ctime +ℤ e.age

-- the first second that a time can have
abbrev pub first_second : ℤ
first_second = neg_ℤ (pos 62_167_219_200)

-- the latest of a second and of those in which these requests came
abbrev pub latest_of : ℤ → List Entry → ℤ
latest_of at [] = at
latest_of at (e ∷ es) = latest_of (int_max at (came e)) es

-- those whose times are not more than the skew before this second
abbrev pub recent : ℤ → List Entry → List Entry
recent latest es = filter (λ e. int_le (latest -ℤ pos skew) e.ctime) es

-- a second above a time and not below another second
abbrev pub above : ℤ → ℤ → ℤ
above floor ctime = int_max floor (ctime +ℤ pos 1)

-- the same for the times of all of these entries
abbrev pub above_all : ℤ → List Entry → ℤ
above_all floor [] = floor
above_all floor (e ∷ es) = above_all (above floor e.ctime) es

-- ---- floors

-- the last second that a time can have
abbrev pub last_second : ℤ
last_second = pos 253_402_300_799

-- A floor that is not below another one, and not below that of a start whose clock shows this second. No floor is above
-- the last second.
abbrev pub floor_since : ℤ → ℤ → ℤ
floor_since floor second = int_min (int_max floor (second +ℤ pos (skew + 1))) last_second

-- the greater of two floors, if there is one
abbrev pub greater : Option ℤ → Option ℤ → Option ℤ
greater None other = other
greater (Some floor) None = Some floor
greater (Some floor) (Some other) = Some (int_max floor other)

-- The floor that is asked for by what was found in a file: it is above the time of each authenticator that this shows
-- of, and above every time that could come until then.
abbrev pub shown_by : Found → Option ℤ
shown_by Nothing = None
shown_by (Broken floor) = floor
shown_by (Whole j) = Some (floor_since j.high j.latest)

-- that of all three files
abbrev pub found_floor : Found → Found → Found → Option ℤ
found_floor older newer beside = greater (shown_by older) (greater (shown_by newer) (shown_by beside))

-- ---- the journal's realm, boot and moments

abbrev pub is_other_realm : Place → Journal → Bool
is_other_realm place j = not (pointwise nat_eq j.header.realm place.realm.now)

-- the seal that a start finds is that of this journal
abbrev pub is_sealed : Place → Journal → Bool
is_sealed place j = pointwise nat_eq place.seal.now j.check

-- there is a seal, and it is that of another journal, or this one has lost its end
abbrev pub is_missealed : Place → Journal → Bool
is_missealed place j = not (pointwise nat_eq place.seal.now [] || is_sealed place j)

-- the system was booted since the journal was begun, and nobody has sealed it
abbrev pub is_other_boot : Place → Journal → Bool
is_other_boot place j = not (pointwise nat_eq j.header.boot place.boot.now || is_sealed place j)

-- it was begun, or a request of it came, after the start
abbrev pub is_later : Place → Journal → Bool
is_later place j = int_lt place.at.sec j.latest

-- nothing goes before it
abbrev pub is_first : Journal → Bool
is_first j = pointwise nat_eq j.header.link []

-- its floor is above all that another one holds
abbrev pub is_above : Journal → Journal → Bool
is_above j before = int_le before.high j.header.floor

-- it goes on behind another one
abbrev pub is_behind : Journal → Journal → Bool
is_behind j before = pointwise nat_eq before.check j.header.link && is_above j before

-- nothing goes before it, or what it goes on behind is there, whole
abbrev pub is_linked : Journal → Found → Bool
is_linked j Nothing = is_first j
is_linked j (Broken floor) = is_first j
is_linked j (Whole before) = is_first j || is_behind j before

-- of what it goes on behind, the realm is another one
abbrev pub is_foreign : Place → Journal → Found → Bool
is_foreign place j Nothing = false
is_foreign place j (Broken floor) = false
is_foreign place j (Whole before) = not (is_first j) && is_other_realm place before

abbrev pub is_unlinked : Place → Found → Journal → Bool
is_unlinked place older j = not (is_linked j older) || is_foreign place j older

-- the first that holds is why the start can't resume
abbrev pub doubt_of : Place → Found → Journal → Option ResumeRefusal
doubt_of place older j =
    first_holding
    ((is_other_realm place j, OtherRealm)
    ∷ (is_missealed place j, Damaged)
    ∷ (is_other_boot place j, OtherBoot)
    ∷ (is_unlinked place older j, Unlinked)
    ∷ [])

-- the clock is behind the journal, or behind what that one goes on behind
abbrev pub is_early : Place → Journal → Found → Bool
is_early place j Nothing = is_later place j
is_early place j (Broken floor) = is_later place j
is_early place j (Whole before) = is_later place j || (not (is_first j) && is_later place before)

-- ---- what it resumes with

abbrev pub seen_of : Entry → Seen
seen_of e = record { client = e.client; ctime = e.ctime; cusec = e.cusec }

-- the floor and the entries of a journal, with those of the one before it, if one goes before it
abbrev pub floor_behind : Journal → Found → ℤ
floor_behind j Nothing = j.header.floor
floor_behind j (Broken floor) = j.header.floor
floor_behind j (Whole before) = if is_first j then j.header.floor else before.header.floor

abbrev pub entries_behind : Journal → Found → List Entry
entries_behind j Nothing = j.entries
entries_behind j (Broken floor) = j.entries
entries_behind j (Whole before) = if is_first j then j.entries else before.entries ++ j.entries

-- the least floor that is not below another one and above all that a journal holds, and the one before it
abbrev pub floor_on : ℤ → Journal → ℤ
floor_on floor j = int_max floor j.high

-- What is older than the skew before the start is refused by its time, and nothing else is. If the clock is behind the
-- journal, everything is refused that may have come before by either: the floor is above all that the journal holds,
-- and not below that of a start without one.
abbrev pub resumed_floor : Place → Journal → Found → ℤ
resumed_floor place j older =
    if is_early place j older
    then floor_on (opening_floor (Restart place.at)) j
    else int_max (floor_behind j older) (place.at.sec -ℤ pos skew)

abbrev pub resumption_of : Place → Found → Journal → Resumption
resumption_of place older j = record {
  floor = resumed_floor place j older;
  seen = map seen_of (entries_behind j older);
}

-- the check behind which the journal goes on; if the clock is behind it, another file is begun
abbrev pub goes_on_behind : Place → Found → Journal → Option (List ℕ)
goes_on_behind place older j = if is_early place j older then None else Some j.check

-- Where it can't resume, it refuses every time below the floor that the files ask for, also if its clock is behind.
abbrev pub start_by : Place → Found → Journal → Found → Option ResumeRefusal → Start
start_by place older j beside (Some doubt) = Refuses doubt (found_floor older (Whole j) beside)
start_by place older j beside None = Resumes (resumption_of place older j) (goes_on_behind place older j)

-- without a newer file there is no journal, unless one of the other two is left of it
abbrev pub is_nothing : Found → Bool
is_nothing Nothing = true
is_nothing (Broken floor) = false
is_nothing (Whole j) = false

abbrev pub doubt_without : Found → Found → ResumeRefusal
doubt_without older beside = if is_nothing older && is_nothing beside then Absent else Damaged

abbrev pub start_of : Place → Found → Found → Found → Start
start_of place older Nothing beside = Refuses (doubt_without older beside) (found_floor older Nothing beside)
start_of place older (Broken floor) beside = Refuses Damaged (found_floor older (Broken floor) beside)
start_of place older (Whole j) beside = start_by place older j beside (doubt_of place older j)

-- ---- a turn that was cut

-- one goes on behind the other, and both are whole
abbrev pub goes_behind : Found → Found → Bool
goes_behind Nothing before = false
goes_behind (Broken floor) before = false
goes_behind (Whole j) Nothing = false
goes_behind (Whole j) (Broken floor) = false
goes_behind (Whole j) (Whole before) = is_behind j before

-- The newer file is missing, and what is beside goes on behind the older one: so a turn was cut between its two last
-- steps.
abbrev pub is_cut : Found → Found → Found → Bool
is_cut older Nothing beside = goes_behind beside older
is_cut older (Broken floor) beside = false
is_cut older (Whole j) beside = false

-- A start finishes it first.
abbrev pub next_start : Place → Found → Found → Found → Start
next_start place older newer beside =
    if is_cut older newer beside then start_of place older beside Nothing else start_of place older newer beside

-- ---- a seal

-- the last check of the newer journal, if a start would resume with both
abbrev pub seal_by : Journal → Option ResumeRefusal → Result (List ℕ) ResumeRefusal
seal_by j (Some doubt) = Err doubt
seal_by j None = Ok j.check

abbrev pub seal_of : Place → Found → Found → Result (List ℕ) ResumeRefusal
seal_of place older Nothing = Err Absent
seal_of place older (Broken floor) = Err Damaged
seal_of place older (Whole j) = seal_by j (doubt_of place older j)
