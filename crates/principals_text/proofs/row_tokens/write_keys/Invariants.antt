use Rattle.std.proofs.Common.{◌≡◌, List, ◌++◌, drop}
use Rattle.json.specs.Token.{Token}
use Rattle.principals_text.specs.RowWritten.{key_value}
use Rattle.principals_text.specs.Tokens.{IsLonger, values_tokens}
use Rattle.principals_text.proofs.row_tokens.write_keys.Given as goal

abbrev pub invariant-loop-key : goal.invariant-loop-key
invariant-loop-key l =
    (done : List Token) × IsLonger l.initial.out l.out done × (done ++ values_tokens key_value (drop l.key-index l.key-items) ≡ values_tokens key_value l.key-items)
