-- What loops over slices have made so far.
use Rattle.std.proofs.Common.{◌≡◌, ◌∙◌, ℕ, suc, ◌+◌, ◌<◌, ◌≤◌, All, List, [], ◌∷◌, ◌++◌, OnErr, OnOk, Option, Some, None, Result, Ok, Err, append_assoc, ap, drop, drop-cons, flat_map, get_or, map, option_map, refl, string_bytes, subst, sym, take, length}
use Rattle.std.proofs.lemmas.List.{append-nil, map-append, take_all, take_more}
use Rattle.std.specs.FinMap as rows
use Rattle.std.proofs.lemmas.List.Elements.{All-push, All-take}
use Rattle.std.proofs.Math.Seq.{take-append_seam}
use Rattle.file_store.specs.World.{World, with_file}
use Rattle.krb_fields.specs.PrincipalName.{Name}
use Rattle.principals.specs.Database.{Principals}
use Rattle.kadm_changes.specs.KeytabFolders.{AreKeytabs, IsKeytabFile, WroteKeytabs, path_in, with_files}
use Rattle.kadm_changes.specs.Keytabs.{IsFreePath}
use Rattle.kadm_changes.specs.Patterns.{names_like}
use Rattle.kadm_changes.specs.Worlds.{HoldsDatabase}
use Rattle.kadm_changes.specs.declared.keytab_folder.FolderArgs.{FolderArgs}
use Rattle.kadm_changes.specs.declared.keytab_folder.KeytabFile.{KeytabFile}

-- what was added, with what is still to come, is the whole
pub puts_on : {A B : Type 0} (text : A → List B) (xs : List A) (i j : ℕ) (x : A) (out new whole : List B) → j ≡ suc i → x ≡ get_or xs i x → i < length xs
    → new ≡ out ++ text x → out ++ flat_map text (drop i xs) ≡ whole → new ++ flat_map text (drop j xs) ≡ whole
puts_on {A} {B} text xs i j x out new whole next is lt put so_far =
    let here : drop i xs ≡ x ∷ drop (suc i) xs = rw (drop-cons xs i x) (ap (λ (y : A). y ∷ drop (suc i) xs) (sym is)) in
    subst (λ (k : ℕ). new ++ flat_map text (drop k xs) ≡ whole) (sym next)
    (ap (λ (l : List B). l ++ flat_map text (drop (suc i) xs)) put ∙ append_assoc out (text x) (flat_map text (drop (suc i) xs)) ∙ sym (ap (λ (l : List A). out ++ flat_map text l) here) ∙ so_far)

-- ---- files

files_on : (files : List KeytabFile) (file : KeytabFile) (world : World)
    → with_files (files ++ file ∷ []) world ≡ with_file (string_bytes file.path) file.octets.items (with_files files world)
files_on [] file world = refl
files_on (first ∷ files) file world = files_on files file (with_file (string_bytes first.path) first.octets.items world)

-- one more file is written
pub written_on : (files : List KeytabFile) (i j : ℕ) (file : KeytabFile) (before now after : Option World) → j ≡ i + 1 → i < length files → file ≡ get_or files i file
    → now ≡ option_map (with_files (take i files)) before → after ≡ option_map (with_file (string_bytes file.path) file.octets.items) now
    → after ≡ option_map (with_files (take j files)) before
written_on files i j file None now after next lt is so_far put =
    put ∙ ap (option_map (with_file (string_bytes file.path) file.octets.items)) so_far
written_on files i j file (Some world) now after next lt is so_far put =
    let more : take j files ≡ take i files ++ file ∷ [] =
    ap (λ k. take k files) next ∙ take_more files i file lt ∙ ap (λ f. take i files ++ f ∷ []) (sym is) in
    put ∙ ap (option_map (with_file (string_bytes file.path) file.octets.items)) so_far
    ∙ ap (λ w. Some w) (sym (ap (λ fs. with_files fs world) more ∙ files_on (take i files) file world))

-- what holds of each, one after another
pub all_on : {A : Type 0} (P : A → Type 0) (xs : List A) (i j : ℕ) (x : A) → j ≡ i + 1 → i < length xs → x ≡ get_or xs i x → All P (take i xs) → P x → All P (take j xs)
all_on P xs i j x next lt is so_far holds =
    subst (λ ys. All P ys) (sym (ap (λ k. take k xs) next ∙ take_more xs i x lt ∙ ap (λ y. take i xs ++ y ∷ []) (sym is)))
    (All-push P (take i xs) x so_far holds)

pub all_end : {A : Type 0} (P : A → Type 0) (xs : List A) (i : ℕ) → length xs ≤ i → All P (take i xs) → All P xs
all_end P xs i le holds = subst (λ ys. All P ys) (take_all i xs le) holds

-- ---- keytabs

abbrev path_of : KeytabFile → List ℕ
path_of file = string_bytes file.path

fewer : (before : Option World) (db : List ℕ) (to : FolderArgs) (files written left : List KeytabFile) → files ≡ written ++ left → AreKeytabs before db to files
    → AreKeytabs before db to written
fewer before db to files written left is are =
    let front : take (length written) files ≡ written = ap (take (length written)) is ∙ take-append_seam written left in
    record {
      old = are.old;
      read = are.read;
      made = subst (All (IsKeytabFile to.folder.now are.old)) front (All-take (IsKeytabFile to.folder.now are.old) (length written) files are.made);
      left = map path_of left ++ are.left;
      fit = sym (append_assoc (map path_of written) (map path_of left) are.left)
          ∙ ap (λ paths. paths ++ are.left) (sym (map-append path_of written left) ∙ ap (map path_of) (sym is))
          ∙ are.fit;
      free = subst (All (λ file. IsFreePath before (string_bytes file.path))) front
          (All-take (λ file. IsFreePath before (string_bytes file.path)) (length written) files are.free);
    }

-- all files, or those before the first that failed
pub wrote : {A E : Type 0} (r : Result A E) (before locked opened made checked after : Option World) (db : List ℕ) (to : FolderArgs) (p : Principals) (files shown put : List KeytabFile)
    → locked ≡ before → opened ≡ locked → made ≡ opened → checked ≡ made → shown ≡ files → put ≡ files
    → HoldsDatabase locked db p → All (IsKeytabFile to.folder.now p) files
    → map (λ file. string_bytes file.path) files ≡ map (path_in to.folder.now) (names_like to.like.now (rows.entries p.rows))
    → All (λ file. IsFreePath made (string_bytes file.path)) shown
    → OnOk r (after ≡ option_map (with_files put) checked)
    → OnErr r ((written : List KeytabFile) × (left : List KeytabFile) × (put ≡ written ++ left) × (after ≡ option_map (with_files written) checked))
    → WroteKeytabs before db to after
wrote {A = A} {E = E} r before locked opened made checked after db to p files shown put first kept same still seen given read are fit free done begun =
    by r done begun
  where
    back : checked ≡ before
    back = still ∙ same ∙ kept ∙ first

    all : AreKeytabs before db to files
    all = record {
      old = p;
      read = subst (λ world. HoldsDatabase world db p) first read;
      made = are;
      left = [];
      fit = append-nil (map (λ file. string_bytes file.path) files) ∙ fit;
      free = subst (λ fs. All (λ file. IsFreePath before (string_bytes file.path)) fs) seen
          (subst (λ world. All (λ file. IsFreePath world (string_bytes file.path)) shown) (same ∙ kept ∙ first) free);
    }

    by : (s : Result A E) → OnOk s (after ≡ option_map (with_files put) checked)
        → OnErr s ((written : List KeytabFile) × (left : List KeytabFile) × (put ≡ written ++ left) × (after ≡ option_map (with_files written) checked))
        → WroteKeytabs before db to after
    by (Ok x) all_done none = (files, all, all_done ∙ ap (λ world. option_map (with_files put) world) back ∙ ap (λ fs. option_map (with_files fs) before) given)
    by (Err e) none (written, left, is, part) =
        (written, fewer before db to files written left (sym given ∙ is) all, part ∙ ap (λ world. option_map (with_files written) world) back)

-- one more keytab, at the path of its name
pub pathed_on : (folder : List ℕ) (names : List Name) (i j : ℕ) (name : Name) (files new : List KeytabFile) (file : KeytabFile)
    → j ≡ i + 1 → name ≡ get_or names i name → i < length names → new ≡ files ++ file ∷ []
    → string_bytes file.path ≡ path_in folder name.components
    → map (λ file. string_bytes file.path) files ≡ map (path_in folder) (map (λ name. name.components) (take i names))
    → map (λ file. string_bytes file.path) new ≡ map (path_in folder) (map (λ name. name.components) (take j names))
pathed_on folder names i j name files new file next is lt put at so_far =
    ap (map path_of) put ∙ map-append path_of files (file ∷ []) ∙ (λ k. so_far k ++ at k ∷ [])
    ∙ sym (map-append (path_in folder) (map (λ name. name.components) (take i names)) (name.components ∷ []))
    ∙ ap (map (path_in folder)) (sym (map-append (λ name. name.components) (take i names) (name ∷ [])))
    ∙ ap (λ some. map (path_in folder) (map (λ name. name.components) some))
    (ap (λ n. take i names ++ n ∷ []) is ∙ sym (take_more names i name lt) ∙ ap (λ k. take k names) (sym next))
