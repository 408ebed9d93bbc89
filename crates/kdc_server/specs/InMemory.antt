-- The record of a host in memory.
use Rattle.std.specs.Prelude.{ℕ, List, [], None}
use Rattle.journal.specs.declared.decision.Found.TheVariants.{Nothing}
use Rattle.kdc_server.specs.Starting.{BeganJournal, Drew, HasNoJournal, Held, HostDid, ReadJournals, ReadRows, ReadSeed}
use Rattle.kdc_server.specs.Starting.{Showed, TookRows}
use Rattle.kdc_files.specs.declared.journals.Journals.{Journals}
use Rattle.kdc_server.specs.declared.memory_host.HostCall.{HostCall}
use Rattle.kdc_server.specs.declared.memory_host.HostCall.TheVariants as calls

-- what a call of a host stands for
abbrev pub did_by : HostCall → HostDid
did_by (calls.ReadRows rows) = ReadRows rows
did_by (calls.ReadSeed path octets) = ReadSeed path octets
did_by (calls.Drew octets) = Drew octets
did_by (calls.Held udp tcp) = Held udp.items tcp.items
did_by (calls.ReadJournals path journals) = ReadJournals path journals
did_by (calls.HasNoJournal removed) = HasNoJournal removed
did_by (calls.Showed at) = Showed at
did_by (calls.BeganJournal beginning) = BeganJournal beginning
did_by calls.TookRows = TookRows

-- this boot, and no journals
abbrev pub no_journals : List ℕ → Journals
no_journals boot = record {
  boot = boot;
  found = record { older = Nothing; newer = Nothing; beside = Nothing };
  seal = [];
  removed = None;
}
