-- The name of a user in /etc/passwd: on its first line, or on one of the others.
use Rattle.std.proofs.Common.{◌≡◌, ◌∙◌, ◌<◌, ℕ, true, false, cond, eqb, List, Some, ap, length, subst, sym}
use Rattle.std.specs.List.{after_first}
use Rattle.file_store.proofs.Lines.{first_is}
use Rattle.file_store.specs.Callers.{first_field, is_line_of, name_of_user}
use Rattle.file_store.specs.Input.{lines_of}
use Rattle.file_store.specs.Inputs.{first_line}

pub named_first : (digits octets line name : List ℕ) → 0 < length octets → line ≡ first_line octets
    → is_line_of digits line ≡ true → name ≡ first_field line → Some name ≡ name_of_user digits (lines_of octets)
named_first digits octets line name some first is named =
    ap Some named ∙ sym (ap (name_of_user digits) (first_is octets some)
    ∙ subst (λ l. cond (is_line_of digits l) (Some (first_field l)) (name_of_user digits (lines_of (after_first (λ b. eqb b 10) octets)))
    ≡ Some (first_field line)) first
    (ap (λ b. cond b (Some (first_field line)) (name_of_user digits (lines_of (after_first (λ b. eqb b 10) octets)))) is))

pub named_later : (digits octets line rest : List ℕ) → 0 < length octets → line ≡ first_line octets
    → is_line_of digits line ≡ false → rest ≡ after_first (λ b. eqb b 10) octets
    → name_of_user digits (lines_of rest) ≡ name_of_user digits (lines_of octets)
named_later digits octets line rest some first is behind =
    ap (λ l. name_of_user digits (lines_of l)) behind ∙ sym (ap (name_of_user digits) (first_is octets some)
    ∙ subst (λ l. cond (is_line_of digits l) (Some (first_field l)) (name_of_user digits (lines_of (after_first (λ b. eqb b 10) octets)))
    ≡ name_of_user digits (lines_of (after_first (λ b. eqb b 10) octets))) first
    (ap (λ b. cond b (Some (first_field line)) (name_of_user digits (lines_of (after_first (λ b. eqb b 10) octets)))) is))
