-- The files of a journal as bytes, and what each call on them may leave.
use Rattle.std.specs.Prelude.{◌≡◌, ◌⊎◌, ℕ, ⊤, Bool, true, false, List, [], ◌++◌, Option, Some, None, option_map, Result}
use Rattle.std.specs.Prelude.{Ok, Err}
use Rattle.std.specs.Prelude.{vec_items}
use Rattle.journal.specs.declared.files.BeginError.{BeginError}
use Rattle.journal.specs.declared.files.Begun.{Begun}
use Rattle.journal.specs.declared.files.Begun.TheVariants.{Linked, Anew, Roomy}
use Rattle.journal.specs.declared.files.FileText.{FileText}
use Rattle.journal.specs.declared.files.FileText.TheVariants as texts
use Rattle.journal.specs.declared.files.Part.{Part}
use Rattle.journal.specs.declared.files.Left.{Left}
use Rattle.journal.specs.declared.files.Left.TheVariants.{Before, Between, InPlace}
use Rattle.journal.specs.declared.files.Part.TheVariants.{Older, Newer, Beside}

-- the bytes of each file, if it is there, and those of the seal: none, if it is broken or absent
pub record World : Type 0 where
  pub newer : Option (List ℕ)
  pub older : Option (List ℕ)
  pub beside : Option (List ℕ)
  pub seal : List ℕ

abbrev pub file_in : Part → World → Option (List ℕ)
file_in Older w = w.older
file_in Newer w = w.newer
file_in Beside w = w.beside

-- A call leads from one world to another. What keeps no record of its world has none, before and after.
abbrev pub Leaves : (World → World → Type 0) → Option World → Option World → Type 0
Leaves step (Some old) (Some new) = step old new
Leaves step (Some old) None = ⊥
Leaves step None new = new ≡ None

-- ---- to append

-- a text at the end of the newer file
abbrev pub with_more : World → List ℕ → World
with_more w text = record w { newer = option_map (λ front. front ++ text) w.newer }

-- a part of a text, from its front, at the end of the newer file
abbrev pub HasPart : List ℕ → World → World → Type 0
HasPart text old new = (part rest : List ℕ) × (text ≡ part ++ rest) × (new ≡ with_more old part)

-- where the call failed, a part of the text may be there, or all of it
abbrev pub Appends : List ℕ → Bool → World → World → Type 0
Appends text true old new = new ≡ with_more old text
Appends text false old new = HasPart text old new

-- ---- to begin a file

-- with this file beside the newer one, or without one
abbrev pub with_beside : Option (List ℕ) → World → World
with_beside beside w = record w { beside = beside }

-- This text is the newer file, and nothing is beside it. The older one is the one that was the newer one before, or
-- there is none.
abbrev pub with_file : Begun → List ℕ → World → World
with_file Linked text w = record { newer = Some text; older = w.newer; beside = None; seal = w.seal }
with_file Anew text w = record { newer = Some text; older = None; beside = None; seal = w.seal }
with_file Roomy text w = record { newer = Some text; older = None; beside = None; seal = w.seal }

-- the same, and the older one is still there
abbrev pub with_newer : List ℕ → World → World
with_newer text w = record { newer = Some text; older = w.older; beside = None; seal = w.seal }

abbrev pub without_older : World → World
without_older w = record w { older = None }

-- to make room, the older file is removed if the newer one is there
abbrev pub older_left : Option (List ℕ) → Option (List ℕ) → Option (List ℕ)
older_left (Some newer) older = None
older_left None older = older

abbrev pub roomier : World → World
roomier w = record w { older = older_left w.newer w.older }

-- Both files are as they were. The one beside them is as it was too, or it is gone, or it has a part of this text, from
-- its front.
abbrev pub HasBeside : List ℕ → World → World → Type 0
HasBeside text old new =
    (new ≡ old)
    ⊎ ((new ≡ with_beside None old)
    ⊎ ((part : List ℕ) × (rest : List ℕ) × (text ≡ part ++ rest) × (new ≡ with_beside (Some part) old)))

-- Halfway, the newer file has become the older one, and the text is beside; or there is more room, and so much of the
-- text is beside.
abbrev pub IsBetween : Begun → List ℕ → World → World → Type 0
IsBetween Linked text old new =
    new ≡ record { newer = None; older = old.newer; beside = Some text; seal = old.seal }
IsBetween Anew text old new = HasBeside text old new
IsBetween Roomy text old new = HasBeside text (roomier old) new

-- The text is in place, but the system may not have that on the disk, and the older file may still be there.
abbrev pub IsInPlace : Begun → List ℕ → World → World → Type 0
IsInPlace Linked text old new = new ≡ with_file Linked text old
IsInPlace Anew text old new = (new ≡ with_newer text old) ⊎ (new ≡ with_file Anew text old)
IsInPlace Roomy text old new = (new ≡ with_newer text old) ⊎ (new ≡ with_file Roomy text old)

-- what a failed call leaves
abbrev pub IsLeft : Begun → List ℕ → Left → World → World → Type 0
IsLeft how text Before old new = HasBeside text old new
IsLeft how text Between old new = IsBetween how text old new
IsLeft how text InPlace old new = IsInPlace how text old new

abbrev pub BeginsAs : {T E : Type 0} → Begun → List ℕ → Result T (BeginError E) → Option World → Option World → Type 0
BeginsAs how text (Ok done) old new = Leaves (λ o n. n ≡ with_file how text o) old new
BeginsAs how text (Err fault) old new = Leaves (IsLeft how text fault.left) old new

-- ---- to finish a turn that was cut

-- the file beside becomes the newer one
abbrev pub finished : World → World
finished w = record { newer = w.beside; older = w.older; beside = None; seal = w.seal }

-- where the call failed, that may be so or not
abbrev pub Finishes : Bool → World → World → Type 0
Finishes true old new = new ≡ finished old
Finishes false old new = (new ≡ old) ⊎ (new ≡ finished old)

-- ---- to seal

abbrev pub with_seal : List ℕ → World → World
with_seal seal w = record w { seal = seal }

-- where the call failed, the seal may be there, or the one that was there before
abbrev pub Seals : List ℕ → Bool → World → World → Type 0
Seals seal true old new = new ≡ with_seal seal old
Seals seal false old new = (new ≡ old) ⊎ (new ≡ with_seal seal old)

-- no call of a running server touches the seal
abbrev pub SameSeal : World → World → Type 0
SameSeal old new = new.seal ≡ old.seal

-- where the call failed, the seal may be there, or not
abbrev pub Unseals : Bool → World → World → Type 0
Unseals true old new = new ≡ with_seal [] old
Unseals false old new = (new ≡ old) ⊎ (new ≡ with_seal [] old)

-- ---- to read

-- What is read of a file. One that is there may be refused unread, as one that others may write; it never counts as
-- absent.
abbrev pub IsRead : Option (List ℕ) → FileText → Type 0
IsRead None texts.Nothing = ⊤
IsRead None texts.Unusable = ⊥
IsRead None (texts.Octets octets) = ⊥
IsRead (Some text) texts.Nothing = ⊥
IsRead (Some text) texts.Unusable = ⊤
IsRead (Some text) (texts.Octets octets) = vec_items octets ≡ text
