-- A new file that is complete before it takes its place. It stands beside its path, under a name that nothing else has.
use Rattle.std.specs.Prelude.{◌≡◌, ⊤, ℕ, List, Option, Some, None}
use Rattle.file_store.specs.World.{World, with_file}

pub record NewFile : Type 0 where
  pub path : List ℕ  -- where it goes
  pub octets : List ℕ

-- the new file of a path is complete, if the store has a record of its files
abbrev pub IsPrepared : Option World → List ℕ → List ℕ → Option NewFile → Type 0
IsPrepared None path octets prepared = ⊤
IsPrepared (Some held) path octets prepared = prepared ≡ Some (record { path = path; octets = octets })

-- the new file has taken its place; every other path is unchanged
abbrev pub IsPlaced : Option World → Option NewFile → Option World → Type 0
IsPlaced None prepared after = after ≡ None
IsPlaced (Some held) None after = ⊥
IsPlaced (Some held) (Some new) after = after ≡ Some (with_file new.path new.octets held)
