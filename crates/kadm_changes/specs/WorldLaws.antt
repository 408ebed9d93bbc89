-- Laws of the files: a database that is read, changed and written, and one beside which keytabs are written.
use Rattle.std.proofs.Common.{◌≡◌, ◌∙◌, All, Bool, true, false, List, [], ◌∷◌, ℕ, Option, Some, None, Ok, ap, refl, string_bytes, subst}
use Rattle.std.specs.Prelude.{bytes_eq, if◌then◌else◌}
use Rattle.std.proofs.lemmas.List.Elements.{All-head, All-tail}
use Rattle.std.proofs.lemmas.Slice.Eq.{bytes_eq-Decides}
use Rattle.file_store.specs.World.{World, with_file}
use Rattle.principals_text.specs.Value.{text_database}
use Rattle.kadm_changes.specs.KeytabFolders.{WroteKeytabs, with_files}
use Rattle.kadm_changes.specs.Keytabs.{IsFreePath}
use Rattle.kadm_changes.specs.declared.keytab_folder.FolderArgs.{FolderArgs}
use Rattle.kadm_changes.specs.declared.keytab_folder.KeytabFile.{KeytabFile}
use Rattle.principals.specs.Database.{Principals}
use Rattle.kadm_changes.specs.Worlds.{HoldsDatabase, IsReadBack, Rewritten, with_database}

pub rewritten : (before asked locked read made after : Option World) (db path : List ℕ) (makes : Principals → Principals → Type 0) (p q : Principals)
    → asked ≡ before → locked ≡ asked → read ≡ locked → made ≡ read → path ≡ db → HoldsDatabase locked db p → makes p q
    → IsReadBack q → after ≡ with_database path q made → Rewritten before db makes after
rewritten before asked locked read made after db path makes p q kept still same stays at holds change reads written = record {
  old = p;
  read = subst (λ world. HoldsDatabase world db p) (still ∙ kept) holds;
  new = q;
  made = change;
  read_back = reads;
  written = written ∙ ap (λ world. with_database path q world) (stays ∙ same ∙ still ∙ kept) ∙ ap (λ named. with_database named q before) at;
}

-- ---- keytabs beside a database

elsewhere : (path other text : List ℕ) (held : World) → (path ≡ other → ⊥) → (with_file path text held).files other ≡ held.files other
elsewhere path other text held differ = by (bytes_eq path other) refl
  where
    by : (b : Bool) → bytes_eq path other ≡ b → (if b then Some text else held.files other) ≡ held.files other
    by true same = absurd (differ ((bytes_eq-Decides path other).0 same))
    by false differs = refl

others_kept : (files : List KeytabFile) (db : List ℕ) (held : World) (p : Principals) (text : List ℕ) → held.files db ≡ Some text → text_database text ≡ Ok p
    → (first : World) → All (λ file. IsFreePath (Some held) (string_bytes file.path)) files
    → (with_files files first).files db ≡ first.files db
others_kept [] db held p text had is first free = refl
others_kept (file ∷ files) db held p text had is first free =
    others_kept files db held p text had is (with_file (string_bytes file.path) file.octets.items first)
    (All-tail (λ file. IsFreePath (Some held) (string_bytes file.path)) file files free)
    ∙ elsewhere (string_bytes file.path) db file.octets.items first
    (λ same. (All-head (λ file. IsFreePath (Some held) (string_bytes file.path)) file files free).no_database text p (ap held.files same ∙ had) is)

-- a database stays as it is
pub keytabs_beside : (held : World) (db : List ℕ) (to : FolderArgs) (after : Option World) → WroteKeytabs (Some held) db to after
    → (world : World) × (after ≡ Some world) × (world.files db ≡ held.files db)
keytabs_beside held db to after (files, are, written) =
    (with_files files held, written, others_kept files db held are.old are.read.0 are.read.1 are.read.2 held are.free)
