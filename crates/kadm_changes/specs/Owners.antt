-- Whose keytab a command extends.
use Rattle.std.specs.Prelude.{◌≡◌, ◌==◌, ◌&&◌, ◌||◌, ℕ, Bool, true, false, List, Option, Some, None, IfSome, bit_and}
use Rattle.file_store.specs.Folders.{folder_of}
use Rattle.file_store.specs.World.{World}
use Rattle.file_store.specs.declared.store.FileRights.{FileRights}

-- nobody may write in the folder but root and the file's owner
abbrev pub is_closed : FileRights → FileRights → Bool
is_closed file folder = (bit_and folder.mode 0x12 == 0) && ((folder.owner == 0) || (folder.owner == file.owner))

abbrev pub owned_by : Option ℕ → ℕ → Bool
owned_by None owner = false
owned_by (Some user) owner = user == owner

-- the user who runs the program owns the file
abbrev pub is_own : FileRights → Bool
is_own file = owned_by file.user file.owner

-- the same; or root runs it, and only the owner, or root, can have put the file there
abbrev pub is_ours : FileRights → FileRights → Bool
is_ours file folder = is_own file || (owned_by file.user 0 && is_closed file folder)

-- what is at the path is ours
abbrev pub IsOurs : Option World → List ℕ → Type 0
IsOurs world path = IfSome world (λ held. is_ours (held.rights path) (held.rights (folder_of path)) ≡ true)
