-- A store in memory.
use Rattle.std.specs.Prelude.{ℕ, Option, option_map}
use Rattle.file_store.specs.Callers.{user_of}
use Rattle.file_store.specs.Input.{Input, lines_of}
use Rattle.file_store.specs.MemoryFiles.{file_at, new_file_of}
use Rattle.file_store.specs.Placing.{NewFile}
use Rattle.file_store.specs.World.{World}
use Rattle.file_store.specs.declared.memory_store.MemoryStore.{MemoryStore}
use Rattle.file_store.specs.declared.store.FileRights.{FileRights}

-- root owns each file, and nobody else may use it
abbrev pub rights_under : Option ℕ → FileRights
rights_under user = record { mode = 0x180; owner = 0; user = user }

-- there are no links
abbrev pub world_of : MemoryStore → World
world_of store = record {
  files = file_at store.files.items;
  random = store.random;
  now = store.seconds;
  rights = λ path. rights_under store.caller.uid;
  canonical = λ path. path;
  caller = user_of store.caller;
}

abbrev pub input_of : MemoryStore → Input
input_of store = record { lines = lines_of store.input.items; terminal = store.terminal }

abbrev pub prepared_of : MemoryStore → Option NewFile
prepared_of store = option_map new_file_of store.prepared
