-- Values found in stages, where each stage uses the values before it, and the first refusal ends the search.
use Rattle.std.specs.Prelude.{Result, Ok, Err}

infixl 10 ◌>>=◌
abbrev pub ◌>>=◌ : {A B R : Type 0} → Result A R → (A → Result B R) → Result B R
(Ok x) >>= f = f x
(Err reason) >>= f = Err reason
