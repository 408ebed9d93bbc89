-- Failed calls of a store are counted, and results show them.
use Rattle.std.specs.Prelude.{◌≡◌, ◌+◌, ◌-◌, ◌^◌, ℕ, min, ⊤, Result, Ok, Err}
use Rattle.file_store.specs.declared.faults.FileError.{FileError}
use Rattle.file_store.specs.declared.faults.FileError.TheVariants.{LongFile, ShortSeed, Failed}
use Rattle.file_store.specs.declared.faults.PathError.{PathError}
use Rattle.file_store.specs.declared.store.Written.{Written}
use Rattle.file_store.specs.declared.store.Written.TheVariants.{Synced, NotSynced}

-- the count after a call: one more if it failed, up to the greatest u64
abbrev pub IsCounted : {T E : Type 0} → ℕ → Result T E → ℕ → Type 0
IsCounted before (Ok done) after = after ≡ before
IsCounted before (Err fault) after = after ≡ min (before + 1) (2 ^ 64 - 1)

-- the same for a write: one more also if the folder could not be synced
abbrev pub IsWriteCounted : {E : Type 0} → ℕ → Result Written E → ℕ → Type 0
IsWriteCounted before (Ok Synced) after = after ≡ before
IsWriteCounted before (Ok (NotSynced error)) after = after ≡ min (before + 1) (2 ^ 64 - 1)
IsWriteCounted before (Err fault) after = after ≡ min (before + 1) (2 ^ 64 - 1)

-- a refused file was read, without a failed call
abbrev pub LeavesCount : ℕ → FileError → ℕ → Type 0
LeavesCount before LongFile after = after ≡ before
LeavesCount before ShortSeed after = after ≡ before
LeavesCount before (Failed error) after = ⊤

-- if a call has failed, the result says so
abbrev pub IsShown : {T : Type 0} → ℕ → Result T PathError → ℕ → Type 0
IsShown before (Ok done) after = after ≡ before
IsShown before (Err fault) after = LeavesCount before fault.cause after

-- the same for a write
abbrev pub IsWriteShown : ℕ → Result Written PathError → ℕ → Type 0
IsWriteShown before (Ok Synced) after = after ≡ before
IsWriteShown before (Ok (NotSynced error)) after = after ≡ min (before + 1) (2 ^ 64 - 1)
IsWriteShown before (Err fault) after = LeavesCount before fault.cause after
