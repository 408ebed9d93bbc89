use Rattle.std.proofs.Common.{◌≡◌, List, ◌++◌, drop}
use Rattle.json.specs.Token.{Token}
use Rattle.principals_text.specs.RowWritten.{version_value}
use Rattle.principals_text.specs.Tokens.{IsLonger, values_tokens}
use Rattle.principals_text.proofs.row_tokens.write_versions.Given as goal

abbrev pub invariant-loop-version : goal.invariant-loop-version
invariant-loop-version l =
    (done : List Token) × IsLonger l.initial.out l.out done × (done ++ values_tokens version_value (drop l.version-index l.version-items) ≡ values_tokens version_value l.version-items)
