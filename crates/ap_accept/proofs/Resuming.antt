-- The bytes of a saved acceptor are read as the state that was saved.
use Rattle.std.proofs.Common.{◌≡◌, ℕ, true, cond, List, [], ◌∷◌, ◌++◌, length, length-take, Option, Some, None, refl, sym, ap, ◌∙◌, arith}
use Rattle.std.specs.Prelude.{option_map}
use Rattle.std.specs.Str.{bytes_eq}
use Rattle.std.proofs.lemmas.Bool.{eq-eqb}
use Rattle.std.proofs.lemmas.List.{append-nil}
use Rattle.sha2.specs.Sha256.{sha256}
use Rattle.sha2.proofs.Facts256.{length-sha256}
use Rattle.cred_files.specs.FormLaws.{part_again}
use Rattle.cred_files.specs.Form.{part}
use Rattle.ap_accept.specs.Saved.{check_of, checked, held, held_in, mark, marked, Puts, Saves}
use Rattle.ap_accept.specs.declared.saving.Held.{Held}
use Rattle.ap_accept.specs.declared.state.State.{State}

bytes_same : (xs : List ℕ) → bytes_eq xs xs ≡ true
bytes_same [] = refl
bytes_same (x ∷ xs) = rw (eq-eqb x x refl) (bytes_same xs)

sixteen : (text : List ℕ) → length (check_of text) ≡ 16
sixteen text = omega (arith, length-take 16 (sha256 text), length-sha256 text)

abbrev pub held_of : State → Held
held_of state = record { mark = mark; floor = state.floor; services = state.services }

whole : (state : State) (text : List ℕ) → Puts held (held_of state) [] text → held text ≡ Some (held_of state, [])
whole state text p = ap held (p.is ∙ sym (append-nil p.text)) ∙ p.again []

abbrev or_none : Option Held → List ℕ → List ℕ → Option Held
or_none found check right = cond (bytes_eq check right) found None

found : (state : State) (check text bytes : List ℕ) → Puts held (held_of state) [] text → check ≡ check_of text → bytes ≡ check ++ text
    → held_in bytes ≡ Some (held_of state)
unfolding held_in
found state check text bytes p same is =
    let all : bytes ≡ check_of text ++ text = is ∙ ap (λ (l : List ℕ). l ++ text) same in
    ap (λ (l : List ℕ). checked (part 16 l)) all
    ∙ ap (λ (o : Option (List ℕ × List ℕ)). checked o) (part_again 16 (check_of text) text (sixteen text))
    ∙ ap (λ b. cond b (marked (held text)) None) (bytes_same (check_of text))
    ∙ ap marked (whole state text p)

pub saves : (state : State) (check text bytes : List ℕ) → Puts held (held_of state) [] text → check ≡ check_of text → bytes ≡ check ++ text → Saves state bytes
saves state check text bytes p same is keytab options =
    ap (λ (o : Option Held). option_map (λ h. record { keytab = keytab; options = options; floor = h.floor; services = h.services }) o) (found state check text bytes p same is)
