-- The record of a journal in memory.
use Rattle.std.specs.Prelude.{List, map, Option, option_map}
use Rattle.kdc_files.specs.Journal.{Handed}
use Rattle.kdc_files.specs.declared.memory_journal.HandedOver.{HandedOver}

-- a record whose entries stand for others
abbrev pub seen_as : {X Y : Type 0} → (X → Y) → Option (List X) → Option (List Y)
seen_as stands entries = option_map (map stands) entries

-- what was handed to a journal
abbrev pub handed_by : HandedOver → Handed
handed_by h = record { at = h.at; seen = h.seen }
