-- What the files of a journal in memory hold.
use Rattle.std.specs.Prelude.{ℕ, List, [], Option, Some, None, option_map, vec_items}
use Rattle.journal.specs.World.{World}
use Rattle.journal.specs.declared.memory_files.MemoryFiles.{MemoryFiles}

-- a seal that is not there has no octets
abbrev pub seal_in : Option (List ℕ) → List ℕ
seal_in (Some seal) = seal
seal_in None = []

abbrev pub memory_world : MemoryFiles → World
memory_world m = record {
  newer = option_map vec_items m.newer;
  older = option_map vec_items m.older;
  beside = option_map vec_items m.beside;
  seal = seal_in m.seal;
}
