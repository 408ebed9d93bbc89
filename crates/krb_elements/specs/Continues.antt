-- A call keeps what was written before it.
use Rattle.std.proofs.Common.{◌≡◌, ◌++◌, ◌∙◌, ℕ, List, [], sym, ap, append_assoc}
use Rattle.std.proofs.lemmas.List.{append-nil}
use Rattle.std.specs.Prelude.{Result, Ok, Err, OnOk, OnErr}

-- what is written begins with these bytes
unfoldable pub Begins : List ℕ → List ℕ → Type 0
Begins before written = (rest : List ℕ) × (written ≡ before ++ rest)

-- whatever bytes the old output begins with, the new one begins with too
abbrev pub Continues : List ℕ → List ℕ → Type 0
Continues old new = (before : List ℕ) → Begins before old → Begins before new

-- so the new output begins with the old one
pub begins : (old new : List ℕ) → Continues old new → Begins old new
unfolding Begins
begins old new kept = kept old ([], sym (append-nil old))

-- ---- how one output comes to continue another

pub appended : (old text new : List ℕ) → new ≡ old ++ text → Continues old new
unfolding Begins
appended old text new is before (rest, front) =
    (rest ++ text, is ∙ ap (λ (l : List ℕ). l ++ text) front ∙ append_assoc before rest text)

-- after something was appended
pub appended_before : (old text between new : List ℕ) → between ≡ old ++ text → Continues between new
    → Continues old new
appended_before old text between new is kept before front = kept before (appended old text between is before front)

-- by a call that appends, or else leaves an output that continues the old one
pub appended_or : {A E : Type 0} (r : Result A E) (old between text new : List ℕ) → Continues old between
    → OnOk r (new ≡ old ++ text) → OnErr r (new ≡ between) → Continues old new
appended_or (Ok x) old between text new kept ok err = appended old text new ok
appended_or (Err e) old between text new kept ok err = rw err kept

-- by a call that appends, or else changes nothing
pub appended_whole : {A E : Type 0} (r : Result A E) (old text new : List ℕ) → OnOk r (new ≡ old ++ text)
    → OnErr r (new ≡ old) → Continues old new
appended_whole r old text new ok err = appended_or r old old text new (λ before front. front) ok err
