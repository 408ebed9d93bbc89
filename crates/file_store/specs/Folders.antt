-- The folder that holds a file.
use Rattle.std.specs.Prelude.{ℕ, List, Option, Some, None, codes, bytes_eq, if◌then◌else◌}
use Rattle.std.specs.Path.{path_parent}

-- an empty path is the current folder
abbrev pub named_folder : List ℕ → List ℕ
named_folder path = if bytes_eq path (codes "") then codes "." else path

abbrev pub parent_folder : Option (List ℕ) → List ℕ
parent_folder None = codes "."
parent_folder (Some parent) = named_folder parent

abbrev pub folder_of : List ℕ → List ℕ
folder_of path = parent_folder (path_parent path)
