-- A keytab for each of several principals, in a folder.
use Rattle.std.specs.Prelude.{◌≡◌, ◌==◌, ◌++◌, ◌∷◌, [], ℕ, List, All, flat_map, map, codes, option_map, string_bytes}
use Rattle.std.specs.Prelude.{Option, None, if◌then◌else◌}
use Rattle.std.specs.FinMap as rows
use Rattle.file_store.specs.World.{World, with_file}
use Rattle.krb_fields.specs.Name.{Components}
use Rattle.krb_fields.specs.NameText.{text_of}
use Rattle.krb_fields.specs.PrincipalName.{Name}
use Rattle.principals.specs.Database.{Principals}
use Rattle.kadm_changes.specs.Keytabs.{IsFreePath, IsNewKeytab}
use Rattle.kadm_changes.specs.Patterns.{names_like}
use Rattle.kadm_changes.specs.Texts.{Text}
use Rattle.kadm_changes.specs.Worlds.{HoldsDatabase}
use Rattle.kadm_changes.specs.declared.keytab_folder.FolderArgs.{FolderArgs}
use Rattle.kadm_changes.specs.declared.keytab_folder.KeytabFile.{KeytabFile}
use Rattle.kadm_changes.specs.declared.keytabs.KeytabContent.TheVariants.{Current}

-- ---- the files

-- a byte of a name's text, in the name of a file: `_` stands for `/`, and is itself written as `\5f`, so that no two
-- names share a file
abbrev pub file_octet : ℕ → List ℕ
file_octet octet =
    if octet == 0x2F then 0x5F ∷ []
    else if octet == 0x5F then codes "\\5f"
    else octet ∷ []

-- the keytab of a principal: FOLDER/host_www.example.com.keytab
abbrev pub path_in : Text → Components → Text
path_in folder who = folder ++ codes "/" ++ flat_map file_octet (text_of who) ++ codes ".keytab"

-- a keytab of a principal's current keys, at its path
pub record IsKeytabFile (folder : Text) (p : Principals) (file : KeytabFile) : Type 0 where
  pub name : Name
  pub path : string_bytes file.path ≡ path_in folder name.components
  pub keys : IsNewKeytab None Current p name file.octets.items

-- files are written, one after another
abbrev pub with_files : List KeytabFile → World → World
with_files [] world = world
with_files (file ∷ files) world = with_files files (with_file (string_bytes file.path) file.octets.items world)

-- ---- what is done

-- keytabs of the principals that the database has and whose names fit, in the order of their names, each at a path
-- without a database or a lock; or the first of these
pub record AreKeytabs (before : Option World) (db : Text) (to : FolderArgs) (files : List KeytabFile) : Type 0 where
  pub old : Principals
  pub read : HoldsDatabase before db old
  pub made : All (IsKeytabFile to.folder.now old) files
  pub left : List Text
  pub fit : map (λ file. string_bytes file.path) files ++ left
      ≡ map (path_in to.folder.now) (names_like to.like.now (rows.entries old.rows))
  pub free : All (λ file. IsFreePath before (string_bytes file.path)) files

-- such keytabs are written, and no other file
abbrev pub WroteKeytabs : Option World → Text → FolderArgs → Option World → Type 0
WroteKeytabs before db to after =
    (files : List KeytabFile) × AreKeytabs before db to files × (after ≡ option_map (with_files files) before)
