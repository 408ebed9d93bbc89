-- The life of a server: looks at a source of rows, rounds between them, and a tidying at most once a minute.
use Rattle.std.specs.Prelude.{◌≡◌, ◌/◌, ◌%◌, ℕ, ⊤, List, [], ◌∷◌, ◌++◌, length, map}
use Rattle.std.specs.Prelude.{ℤ, pos, Bool, true, replicate, count_by, Option, Some, None}
use Rattle.std.specs.List.{AllByRecursion, flat_map}
use Rattle.std.specs.Option.{option_or}
use Rattle.krb_fields.specs.Name.{Components}
use Rattle.krb_fields.specs.declared.moment.Moment.{Moment}
use Rattle.replay.specs.Run.{OneForEach}
use Rattle.kdc_hub.specs.declared.server.Served.{Served}
use Rattle.kdc_hub.specs.declared.wires.WireCall.{WireCall}
use Rattle.kdc_hub.specs.Hub.{HubState}
use Rattle.kdc_hub.specs.History.{CanBeResumedFrom, IsOneRun, Replaced, ServesAlikeFrom, Stepped, Tidied, Turn}
use Rattle.kdc_hub.specs.History.{TidiesUnseenFrom}
use Rattle.kdc_hub.specs.History.{UnaffectedFrom, after_turns, tickets_sent}
use Rattle.kdc_hub.specs.Moved.{MovesNothingElseFrom}
use Rattle.kdc_hub.specs.Timer.{due_at}
use Rattle.kdc_hub.specs.Rounds.{AreRounds, IsRun, Round, did_in, entries_of, fault_total, is_refused, last_moment}
use Rattle.kdc_hub.specs.Wire.{Records, is_event}
use Rattle.kdc_hub.specs.declared.rows.Look.{Look}
use Rattle.kdc_hub.specs.declared.rows.Look.TheVariants.{Unchanged, Changed, Failed}
use Rattle.kdc_hub.specs.declared.totals.Totals.{Totals}

-- the effect of a look on the rows that are served
abbrev pub replacement : Look → List Turn
replacement Unchanged = []
replacement (Changed database) = Replaced database ∷ []
replacement Failed = []

-- the seconds between two tidyings, if the clock doesn't go back
abbrev pub minute : ℤ
minute = pos 60

abbrev pub tidying : Option Moment → List Turn
tidying None = []
tidying (Some at) = Tidied at ∷ []

-- a look, the rounds up to the next one, and the moment of the tidying after them, if there was one
pub record Period : Type 0 where
  pub look : Look
  pub rounds : List Round
  pub tidied : Option Moment

-- the history of a period: the rows are replaced before its first round, and a tidying may follow its last one
abbrev pub turns_of : Period → List Turn
turns_of period =
    replacement period.look ++ (map Stepped (flat_map entries_of period.rounds) ++ tidying period.tidied)

-- the moment of the last tidying after these periods
abbrev pub tidied_by : Option Moment → List Period → Option Moment
tidied_by tidied [] = tidied
tidied_by tidied (period ∷ periods) = tidied_by (option_or period.tidied tidied) periods

abbrev pub rounds_in : List Period → List Round
rounds_in periods = flat_map (λ period. period.rounds) periods

-- each period begins with the hub that the ones before it left; it tidies if that is due
unfoldable pub ArePeriods : Option Moment → HubState → List Period → Type 0
ArePeriods tidied hub [] = ⊤
ArePeriods tidied hub (period ∷ periods) =
    AreRounds (after_turns hub (replacement period.look)) period.rounds
    × (period.tidied ≡ due_at minute tidied (last_moment period.rounds))
    × ArePeriods (option_or period.tidied tidied) (after_turns hub (turns_of period)) periods

-- the number of rounds in each period: 16, and the rest in the last one
abbrev pub periods_of : ℕ → List ℕ
periods_of rounds = replicate (rounds / 16) 16 ++ rounds % 16 ∷ []

-- where the rows are fixed, a look finds none that are new
abbrev pub MayFind : Bool → Look → Type 0
MayFind is_fixed look = is_fixed ≡ true → look ≡ Unchanged

-- The records of the Wire and of the source before and afterwards, whether the source's rows never change, the hub
-- before and afterwards, and the counts.
pub record IsLived (wire : Option (List WireCall)) (is_fixed : Bool) (source : Option (List Look)) (start : HubState)
    (lengths : List ℕ) (totals : Totals) (wire_after : Option (List WireCall)) (source_after : Option (List Look))
    (new : HubState) : Type 0 where
  pub periods : List Period
  pub each : ArePeriods None start periods
  pub many : map (λ period. length period.rounds) periods ≡ lengths
  -- the Wire did this and nothing else
  pub did : Records wire (flat_map did_in (rounds_in periods)) wire_after
  -- there were this many looks at the source, and this is what they found
  pub found : Records source (map (λ period. period.look) periods) source_after
  pub fixed : AllByRecursion (λ period. MayFind is_fixed period.look) periods
  -- the rows that were found, the polled events with the added ends, and the tidyings are one history
  pub hub : new ≡ after_turns start (flat_map turns_of periods)
  pub events : totals.events ≡ count_by is_event (flat_map did_in (rounds_in periods))
  pub faults : totals.faults ≡ fault_total (flat_map did_in (rounds_in periods))
  pub refused : totals.refused ≡ count_by is_refused (flat_map entries_of (rounds_in periods))

-- It is a history of one process, and the laws of all histories hold of it.
pub record IsLife (wire : Option (List WireCall)) (is_fixed : Bool) (source : Option (List Look)) (start : HubState)
    (lengths : List ℕ) (totals : Totals) (wire_after : Option (List WireCall)) (source_after : Option (List Look))
    (new : HubState) : Type 0 where
  pub lived : IsLived wire is_fixed source start lengths totals wire_after source_after new
  pub one_run : IsOneRun start (flat_map turns_of lived.periods)
  pub isolation : ServesAlikeFrom start (flat_map turns_of lived.periods)
  pub unaffected : UnaffectedFrom start (flat_map turns_of lived.periods)
  pub moved : MovesNothingElseFrom start (flat_map turns_of lived.periods)
  pub unseen : TidiesUnseenFrom start (flat_map turns_of lived.periods)
  pub resumable : CanBeResumedFrom start (flat_map turns_of lived.periods)
  pub one_ticket : (c : Components) → OneForEach (tickets_sent c start (flat_map turns_of lived.periods))

-- the result of a look
pub record HasLooked (is_fixed : Bool) (source : Option (List Look)) (start : HubState)
    (source_after : Option (List Look)) (new : HubState) : Type 0 where
  pub look : Look
  pub found : Records source (look ∷ []) source_after
  pub fixed : MayFind is_fixed look
  pub hub : new ≡ after_turns start (replacement look)

-- the result of a tidying, if there was one, and the moment of the last one
pub record HasTidied (start : HubState) (tidied last : Option Moment) (new : HubState)
    (tidied_after : Option Moment) : Type 0 where
  pub hub : new ≡ after_turns start (tidying (due_at minute tidied last))
  pub after : tidied_after ≡ option_or (due_at minute tidied last) tidied

-- the result of a look, of this many rounds after it, and perhaps of a tidying
pub record IsPeriod (wire : Option (List WireCall)) (is_fixed : Bool) (source : Option (List Look)) (start : HubState)
    (tidied : Option Moment) (n : ℕ) (served : Served) (wire_after : Option (List WireCall))
    (source_after : Option (List Look)) (new : HubState) (tidied_after : Option Moment) : Type 0 where
  pub look : Look
  pub middle : HubState
  pub found : Records source (look ∷ []) source_after
  pub fixed : MayFind is_fixed look
  pub run : IsRun wire (after_turns start (replacement look)) n served wire_after middle
  pub tidies : HasTidied middle tidied served.last new tidied_after
