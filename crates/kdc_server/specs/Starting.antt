-- What a server asks of its host, its seed, and how its KDC is opened.
use Rattle.std.specs.Prelude.{◌≡◌, ℕ, ℤ, Bool, true, false, List, [], ◌∷◌, take, Option, Some, None}
use Rattle.std.specs.declared.net.socket_addr.SocketAddr.{SocketAddr}
use Rattle.rand_core.specs.Stream.{Stream}
use Rattle.rand_core.specs.Steps.{steps_u32, stream_of}
use Rattle.rand_chacha.specs.ChaCha.{ChaCha, next_word, of_seed}
use Rattle.krb_fields.specs.declared.moment.Moment.{Moment}
use Rattle.principals.specs.Database.{Principals}
use Rattle.replay.specs.declared.opening.Opening.{Opening}
use Rattle.replay.specs.declared.opening.Opening.TheVariants.{First, Restart}
use Rattle.kdc_hub.specs.Wire.{Records}
use Rattle.kdc_files.specs.declared.journals.JournalBeginning.{JournalBeginning}
use Rattle.kdc_files.specs.declared.journals.Journals.{Journals}

-- A call of a host that succeeded, with its outcome: it read the rows of the database; it read the octets of the file
-- of the seed at a path; the system gave random octets; sockets for datagrams and sockets that take connections are
-- held at these addresses from then on; it holds the journal at a path, and read these; no journal is beside the
-- database, and what was removed there asked for this floor; the clock showed a moment; the journal that was read began
-- so; it handed over the source of the rows.
pub data HostDid : Type 0 where
  ReadRows : Principals → HostDid
  ReadSeed : List ℕ → List ℕ → HostDid
  Drew : List ℕ → HostDid
  Held : List SocketAddr → List SocketAddr → HostDid
  ReadJournals : List ℕ → Journals → HostDid
  HasNoJournal : Option ℤ → HostDid
  Showed : Moment → HostDid
  BeganJournal : JournalBeginning → HostDid
  TookRows : HostDid

-- the octets come from the file that the option names, or else from the system
abbrev pub seeding : Option (List ℕ) → List ℕ → HostDid
seeding (Some path) octets = ReadSeed path octets
seeding None octets = Drew octets

-- only the first 32 octets of a file are the seed
abbrev pub seed_by : Option (List ℕ) → List ℕ → List ℕ
seed_by (Some path) octets = take 32 octets
seed_by None octets = octets

-- the seed that was taken, and what was recorded of it
pub record IsSeed (path : Option (List ℕ)) (before after : Option (List HostDid)) (seed : List ℕ) : Type 0 where
  pub octets : List ℕ
  pub did : Records before (seeding path octets ∷ []) after
  pub is : seed ≡ seed_by path octets

-- how the KDC is opened, where it does not resume
abbrev pub opened_by : Bool → Moment → Opening
opened_by true at = First
opened_by false at = Restart at

-- what ChaCha20 gives from one of its states on: it has ten double rounds
abbrev pub chacha20 : ChaCha → Stream
chacha20 = stream_of (steps_u32 (next_word 10))

-- what it gives under a seed
abbrev pub seeded : List ℕ → Stream
seeded seed = chacha20 (of_seed seed)
