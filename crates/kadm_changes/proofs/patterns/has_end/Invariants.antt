use Rattle.std.proofs.Common.{◌≡◌, ℕ, length}
use denote.Text.{Utf8}
use denote.Shadow.{shadow}
use Rattle.kadm_changes.specs.Patterns.{fits, some_end}
use Rattle.kadm_changes.proofs.patterns.has_end.Given as goal

-- what is left of the text has an end that fits what is left of the pattern just where the whole text has one
abbrev pub invariant-loop-part : goal.invariant-loop-part
invariant-loop-part l = shadow (Utf8 l.pattern) × shadow (Utf8 l.left)
    × (some_end (fits l.fn.pattern) l.fn.text ≡ some_end (fits l.pattern) l.left)

abbrev pub decreases-loop-part : goal.decreases-loop-part
decreases-loop-part l = length l.pattern
