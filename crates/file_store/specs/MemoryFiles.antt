-- The files of a store in memory, as a list.
use Rattle.std.specs.Prelude.{ℕ, List, [], ◌∷◌, Option, None, option_map, if◌then◌else◌, string_bytes, bytes_eq}
use Rattle.file_store.specs.Placing.{NewFile}
use Rattle.file_store.specs.declared.memory_files.PreparedFile.{PreparedFile}
use Rattle.file_store.specs.declared.memory_files.StoredFile.{StoredFile}

-- the first file with a path, which was written or removed last
abbrev pub file_at : List StoredFile → List ℕ → Option (List ℕ)
file_at [] path = None
file_at (file ∷ files) path =
    if bytes_eq (string_bytes file.path) path then option_map
    (λ octets. octets.items) file.octets else file_at files path

abbrev pub new_file_of : PreparedFile → NewFile
new_file_of file = record { path = string_bytes file.path; octets = file.octets.items }
