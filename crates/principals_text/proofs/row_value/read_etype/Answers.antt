use Rattle.std.proofs.Common.{rules, ◌≡◌, pos}
use Rattle.enctypes.specs.Numbered.{type_numbered}
use Rattle.principals_text.proofs.Values.{etype_found}
use Rattle.principals_text.proofs.row_value.read_etype.Goals as goal

pub returns : goal.returns
returns c =
    let found : c.from_number.result ≡ type_numbered (pos c.in_ok-as_u64.field-0) =
    etype_found c.in_ok-as_u64.field-0 _ c.from_number.result (search rules) c.from_number.ensures.named c.from_number.ensures.none in
    search rules
