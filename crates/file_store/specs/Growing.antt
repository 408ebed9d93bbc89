-- A file that grows by lines, such as a record of changes: what is added at its end, what is cut off, and its new path.
use Rattle.std.specs.Prelude.{◌≡◌, ◌++◌, ◌⊎◌, ℕ, List, [], Option, Some, None, option_map, take, unwrap_or, bytes_eq}
use Rattle.std.specs.Prelude.{if◌then◌else◌}
use Rattle.file_store.specs.World.{World, with_file, without_file}

-- the bytes at a path: none if there is no file
abbrev pub text_at : List ℕ → World → List ℕ
text_at path world = unwrap_or (world.files path) []

-- with these bytes at the end of the file, which is made if it is not there; every other path is unchanged
abbrev pub grown : List ℕ → List ℕ → World → World
grown path octets world = with_file path (text_at path world ++ octets) world

-- what an append leaves that failed: all as it was, or a first part of the bytes at the end of the file
abbrev pub IsPartGrown : Option World → List ℕ → List ℕ → Option World → Type 0
IsPartGrown before path octets after =
    (after ≡ before) ⊎ ((n : ℕ) × (after ≡ option_map (grown path (take n octets)) before))

-- with no more than the first bytes of a file; every other path is unchanged
abbrev pub shortened : List ℕ → ℕ → World → World
shortened path len world = record world {
  files = λ asked. if bytes_eq path asked then option_map (take len) (world.files path) else world.files asked;
}

-- what a cut leaves that failed: the file as it was, or the cut one, which is perhaps not on the disk
abbrev pub IsPerhapsShortened : Option World → List ℕ → ℕ → Option World → Type 0
IsPerhapsShortened before path len after =
    (after ≡ before) ⊎ (after ≡ option_map (shortened path len) before)

-- a file has another path, which was free; every other path is unchanged
abbrev pub IsMoved : Option World → List ℕ → List ℕ → Option World → Type 0
IsMoved None from to after = after ≡ None
IsMoved (Some held) from to after = (octets : List ℕ) × (held.files from ≡ Some octets) × (held.files to ≡ None)
    × (after ≡ Some (with_file to octets (without_file from held)))
