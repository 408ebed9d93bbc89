-- What is left after more was sent.
use Rattle.std.proofs.Common.{◌≡◌, ◌+◌, ◌≤◌, ℕ, List, [], ◌++◌, length, take, drop, refl, ap, ◌∙◌, sym, append_assoc, arith}
use Rattle.std.proofs.Common.{length-drop, take-append-drop}
use Rattle.std.proofs.Math.Seq.{take-append_seam}
use Rattle.kdc_sockets.specs.Unsent.{IsLeftOf}

-- Nothing was sent.
pub left_itself : (all : List ℕ) → IsLeftOf all all
left_itself all = ([], refl)

-- More was sent later.
pub left_later : (all mid left now : List ℕ) → IsLeftOf all mid → IsLeftOf mid left → now ≡ left → IsLeftOf all now
left_later all mid left now before after is =
    (before.0 ++ after.0, before.1 ∙ ap (λ l. before.0 ++ l) after.1 ∙ sym (append_assoc before.0 after.0 left) ∙ ap (λ l. (before.0 ++ after.0) ++ l) (sym is))

-- What was sent is turned to the end and cut off.
pub left_of_rotated : (all turned now : List ℕ) (sent n : ℕ) → sent ≤ length all → turned ≡ drop sent all ++ take sent all → now ≡ take n turned → n + sent ≡ length all → IsLeftOf all now
left_of_rotated all turned now sent n fits turns cuts counted =
    let rest : n ≡ length (drop sent all) = omega (arith, length-drop sent all) in
    let cut : now ≡ drop sent all = cuts ∙ ap (take n) turns ∙ ap (λ m. take m (drop sent all ++ take sent all)) rest ∙ take-append_seam (drop sent all) (take sent all) in
    (take sent all, sym (take-append-drop sent all) ∙ ap (λ l. take sent all ++ l) (sym cut))
