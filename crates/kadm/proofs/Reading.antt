-- Lines of a batch whose passwords were read.
use Rattle.std.proofs.Common.{◌≡◌, ◌≤◌, ◌-◌, ◌++◌, All, IfSome, List, [], ◌∷◌, Option, Some, None, arith, drop, get_or, length, subst, sym, take}
use Rattle.std.specs.Borrow.{Bor}
use Rattle.std.specs.Option.{option_copied}
use Rattle.std.proofs.lemmas.List.Elements.{All-drop, All-push, All-take}
use Rattle.file_store.specs.World.{World}
use Rattle.kadm_changes.specs.Found.{IsFound, IsFoundIn}
use Rattle.kadm_changes.specs.declared.passwords.FoundPassword.{FoundPassword}
use Rattle.kadm.specs.Batches.{IsLineRead}
use Rattle.kadm.specs.declared.batch.BatchLine.{BatchLine}

pub rest_read : (world : Option World) (lines : List BatchLine) → All (IsLineRead world) lines
    → All (IsLineRead world) (take (length lines - 1) (drop 1 lines))
rest_read world lines read =
    All-take (IsLineRead world) (length lines - 1) (drop 1 lines) (All-drop (IsLineRead world) 1 lines read)

pub line_read : (now first : Option World) (lines : List BatchLine) (line : BatchLine) → now ≡ first → 1 ≤ length lines
    → line ≡ get_or lines 0 line → All (IsLineRead first) lines → IsLineRead now line
line_read now first [] line kept some is read = absurd (omega (arith, some))
line_read now first (next ∷ lines) line kept some is read =
    subst (λ world. IsLineRead world line) (sym kept) (subst (IsLineRead first) (sym is) (read 0 line (omega arith)))

-- the password of a line, as it is lent
lent : (world : Option World) (found : Option (Bor FoundPassword)) → IfSome (option_copied found) (λ held. IsFound world held) → IsFoundIn world found
lent world None read = tt
lent world (Some held) read = read

pub found_in : (world : Option World) (line : BatchLine) (found : Option (Bor FoundPassword)) → option_copied found ≡ line.password
    → IsLineRead world line → IsFoundIn world found
found_in world line found is read = lent world found (subst (λ held. IfSome held (λ f. IsFound world f)) (sym is) read)

-- a line whose password was read is added to those whose passwords were read
pub line_added : (now first : Option World) (so_far more : List BatchLine) (made : BatchLine) → now ≡ first → All (IsLineRead first) so_far
    → IfSome made.password (λ found. IsFound now found) → more ≡ so_far ++ made ∷ [] → All (IsLineRead first) more
line_added now first so_far more made kept all read pushed =
    subst (All (IsLineRead first)) (sym pushed)
    (All-push (IsLineRead first) so_far made all (subst (λ world. IfSome made.password (λ found. IsFound world found)) kept read))
