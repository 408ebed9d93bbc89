use Rattle.std.proofs.Common.{◌≡◌, List, ◌++◌}
use Rattle.principals_text.specs.Tokens.{IsLonger, named_tokens}
use Rattle.principals_text.proofs.RowTokens.{Named}
use Rattle.principals_text.proofs.row_tokens.write_rows.Given as goal

abbrev pub invariant-loop-text : goal.invariant-loop-text
invariant-loop-text l = (done : List Named) × (l.rows.entries ≡ done ++ l.text-iterator) × IsLonger l.initial.out l.out (named_tokens done)
