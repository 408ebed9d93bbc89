use Rattle.std.proofs.Common.{◌≡◌, List, ℕ, Result, Ok, Err, IfNone, MatchResult, Option, sym, subst}
use Rattle.std.specs.Result.{result_ok}
use Rattle.std.specs.Str.{IsAscii, IsUtf8}
use Rattle.std.proofs.lemmas.Str.{IsUtf8-from_ascii}
use Rattle.kdcd.proofs.line.ascii_text.Goals as goal

-- ASCII is UTF-8
is_text : {S E : Type 0} (octets : List ℕ) (r : Result S E) (o : Option S) (P : S → Type 0) (Q : E → Type 0) (X : Type 0)
    → o ≡ result_ok r → IsAscii octets → MatchResult r P (λ e. ¬ IsUtf8 octets × Q e) → IfNone o X
is_text octets (Ok text) o P Q X e ascii cases = subst (λ x. IfNone x X) (sym e) tt
is_text octets (Err f) o P Q X e ascii cases = absurd (cases.0 (IsUtf8-from_ascii octets ascii))

pub returns-then-is_ascii-clause-none : goal.returns-then-is_ascii-clause-none
returns-then-is_ascii-clause-none c =
    is_text c.args.octets.now c.from_utf8.result c.ok.result _ _ _ c.ok.ensures.value c.if-is_ascii.ensures.cases c.from_utf8.ensures.cases
