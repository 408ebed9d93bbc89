-- The content of a store. A store without a record of it has no world, and nothing is stated about it.
use Rattle.std.specs.Prelude.{◌≡◌, ◌≤◌, ◌<◌, ℕ, Bool, List, Option, Some, None, IfSome, is_some, if◌then◌else◌}
use Rattle.std.specs.Prelude.{bytes_eq}
use Rattle.std.specs.Prelude.{length, slice_get, take}
use Rattle.file_store.specs.Callers.{User}
use Rattle.file_store.specs.Inputs.{first_line}
use Rattle.file_store.specs.declared.store.FileRights.{FileRights}

pub record World : Type 0 where
  pub files : List ℕ → Option (List ℕ)  -- the file at each path
  pub random : List ℕ  -- the result of each draw
  pub now : ℕ  -- the clock's second since the start of 1970
  pub rights : List ℕ → FileRights  -- who may use what is at each path; all files of such a store have one owner
  pub canonical : List ℕ → List ℕ  -- each path, with the links in it followed
  pub caller : User  -- who runs the program

-- with a file at a path, which replaces the one there; every other path is unchanged
abbrev pub with_file : List ℕ → List ℕ → World → World
with_file path octets world =
    record world { files = λ asked. if bytes_eq path asked then Some octets else world.files asked }

-- without the file at a path; every other path is unchanged
abbrev pub without_file : List ℕ → World → World
without_file path world = record world { files = λ asked. if bytes_eq path asked then None else world.files asked }

abbrev pub IsThere : Option World → List ℕ → Bool → Type 0
IsThere world path found = IfSome world (λ held. found ≡ is_some (held.files path))

abbrev pub IsRead : Option World → List ℕ → List ℕ → Type 0
IsRead world path octets = IfSome world (λ held. held.files path ≡ Some octets)

abbrev pub HasRights : Option World → List ℕ → FileRights → Type 0
HasRights world path rights = IfSome world (λ held. held.rights path ≡ rights)

abbrev pub IsDrawn : Option World → List ℕ → Type 0
IsDrawn world octets = IfSome world (λ held. octets ≡ held.random)

-- the first byte of the file at a path: none if the file is empty or absent
abbrev pub first_octet : Option (List ℕ) → Option ℕ
first_octet None = None
first_octet (Some octets) = slice_get octets 0

abbrev pub IsFirst : Option World → List ℕ → Option ℕ → Type 0
IsFirst world path octet = IfSome world (λ held. octet ≡ first_octet (held.files path))

abbrev pub IsNow : Option World → ℕ → Type 0
IsNow world seconds = IfSome world (λ held. seconds ≡ held.now)

abbrev pub IsCanonical : Option World → List ℕ → List ℕ → Type 0
IsCanonical world path found = IfSome world (λ held. found ≡ held.canonical path)

abbrev pub IsCaller : Option World → User → Type 0
IsCaller world user = IfSome world (λ held. user ≡ held.caller)

-- the first 32 bytes of a file, or of a draw if no file is named
abbrev pub HasSeed : Option World → Option (List ℕ) → List ℕ → Type 0
HasSeed world (Some path) seed = (octets : List ℕ) × IsRead world path octets × (32 ≤ length octets)
    × (seed ≡ take 32 octets)
HasSeed world None seed = IsDrawn world seed

-- the first line of a file
abbrev pub HasFirstLine : Option World → List ℕ → List ℕ → Type 0
HasFirstLine world path line = (octets : List ℕ) × IsRead world path octets × (line ≡ first_line octets)

-- whether the first line of a file has more bytes than this
abbrev pub HasLongFirstLine : Option World → List ℕ → ℕ → Type 0
HasLongFirstLine world path most = (octets : List ℕ) × IsRead world path octets × (most < length (first_line octets))
