-- What a journal is handed over the life of a server.
use Rattle.std.specs.Prelude.{◌≡◌, List, map, Option}
use Rattle.std.specs.List.{flat_map}
use Rattle.krb_fields.specs.declared.moment.Moment.{Moment}
use Rattle.replay.specs.declared.seen.Seen.{Seen}
use Rattle.kdc_hub.specs.History.{Stepped, newly_seen_in}
use Rattle.kdc_hub.specs.Hub.{HubState}
use Rattle.kdc_hub.specs.Rounds.{AreRounds, Round, did_in, entries_of}
use Rattle.kdc_hub.specs.Life.{ArePeriods, Period, rounds_in, turns_of}
use Rattle.kdc_files.specs.Journal.{Handed}
use Rattle.kdc_server.specs.Served.{handed_in}

abbrev pub all_seen : List Handed → List Seen
all_seen handed = map (λ (h : Handed). h.seen) handed

-- Over rounds, what is handed over is what the requests made the KDC remember: all of it, in order, and nothing else.
abbrev pub HandsAllInRounds : Type 0
HandsAllInRounds = (start : HubState) (rounds : List Round) (at : Moment) → AreRounds start rounds
    → all_seen (handed_in at (flat_map did_in rounds)) ≡ newly_seen_in start (map Stepped (flat_map entries_of rounds))

-- and over the life of a server, whatever rows it looks up meanwhile and however often it is tidied
abbrev pub HandsAllInLife : Type 0
HandsAllInLife = (tidied : Option Moment) (start : HubState) (periods : List Period) (at : Moment)
    → ArePeriods tidied start periods
    → all_seen (handed_in at (flat_map did_in (rounds_in periods))) ≡ newly_seen_in start (flat_map turns_of periods)
