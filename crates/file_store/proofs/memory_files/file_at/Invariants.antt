use Rattle.std.proofs.Common.{◌≡◌, drop}
use Rattle.file_store.specs.MemoryFiles.{file_at}
use Rattle.file_store.proofs.memory_files.file_at.Given as goal

abbrev pub invariant-loop-file : goal.invariant-loop-file
invariant-loop-file l =
    file_at (drop l.file-index l.files) l.path ≡ file_at l.fn.files l.fn.path
