-- The lines of a krb5.conf that include files.
use Rattle.std.specs.Prelude.{◌==◌, ℕ, List, [], ◌∷◌, length, drop, Option, Some, None, codes, if◌then◌else◌}
use Rattle.std.specs.Char.{is_ascii_whitespace}
use Rattle.std.specs.List.{starts_with}
use Rattle.krb5_conf.specs.Line.{trimmed}
use Rattle.krb5_conf.specs.declared.included.Included as lines
use Rattle.krb5_conf.specs.declared.included.Included.TheVariants as says

pub data Including : Type 0 where
  -- the file at this path
  File : List ℕ → Including
  -- the files in this folder
  Folder : List ℕ → Including

-- the same for the code's type, which borrows from the line
abbrev pub said_to_include : lines.Included → Including
said_to_include (says.File path) = File path.now
said_to_include (says.Folder folder) = Folder folder.now

-- what follows a blank
abbrev pub after_blank : List ℕ → Option (List ℕ)
after_blank [] = None
after_blank (first ∷ rest) = if is_ascii_whitespace first then Some (trimmed rest) else None

-- what follows a word and a blank at the start of a line
abbrev pub behind : List ℕ → List ℕ → Option (List ℕ)
behind word line = if starts_with ◌==◌ line word then after_blank (drop (length word) line) else None

-- a folder, or else a file
abbrev pub included_by : Option (List ℕ) → Option (List ℕ) → Option Including
included_by (Some folder) path = Some (Folder folder)
included_by None (Some path) = Some (File path)
included_by None None = None

abbrev pub included : List ℕ → Option Including
included line = included_by (behind (codes "includedir") line) (behind (codes "include") line)
