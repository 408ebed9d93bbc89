use Rattle.std.proofs.Common.{◌≡◌, ◌++◌, ◌∷◌}
use Rattle.ap_accept.proofs.presented.full_name.Given as goal

-- what is copied, with what is left, is the whole name
abbrev pub invariant-loop-component : goal.invariant-loop-component
invariant-loop-component l = l.components ++ l.component-iterator ≡ l.realm ∷ l.name.components
